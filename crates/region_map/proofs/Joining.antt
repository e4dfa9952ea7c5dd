-- Lists of ranges with one range more: joined with its neighbours, they map the same, and no two neighbours make one.
use Rattle.std.proofs.Common.{◌≡◌, ℕ, ◌+◌, ◌-◌, ◌<◌, ◌≤◌, ◌⊎◌, inl, inr, Bool, true, false, Option, Some, None, List, [], ◌∷◌, ◌++◌, refl, sym, ap, ◌∙◌, subst, arith}
use Rattle.std.specs.Prelude.{nat_le, ◌&&◌, if◌then◌else◌}
use Rattle.std.proofs.lemmas.Bool.Decides.{nat_tests}
use Rattle.std.proofs.lemmas.Bool.{cases_lt}
use Rattle.paging_model.specs.Listings.{Stretch, IsOneWith, AreApart, target_in}
use Rattle.paging_model.specs.Translations.{Target}
use Rattle.region_map.specs.Coalesced.{IsPageRange, ArePageRanges, AreCoalesced, range_target, IsFilled, IsUnmapped}

pub within_both : (first last x : ℕ) → first ≤ x → x ≤ last → (nat_le first x && nat_le x last) ≡ true
within_both first last x from to = grind (arith, nat_tests)

pub outside_both : (first last x : ℕ) → ((x < first) ⊎ (last < x)) → (nat_le first x && nat_le x last) ≡ false
outside_both first last x (inl before) = grind (arith, nat_tests)
outside_both first last x (inr after) = grind (arith, nat_tests)

module _ {Kind : Type 0} where
  -- what one range and a list after it map
  pub target_in-within : (one : Stretch Kind) (rest : List (Stretch Kind)) (x : ℕ) → one.first ≤ x → x ≤ one.last
      → target_in (one ∷ rest) x ≡ Some (range_target one x)
  target_in-within one rest x from to = rw (within_both one.first one.last x from to) refl

  pub target_in-outside : (one : Stretch Kind) (rest : List (Stretch Kind)) (x : ℕ) → ((x < one.first) ⊎ (one.last < x))
      → target_in (one ∷ rest) x ≡ target_in rest x
  target_in-outside one rest x out = rw (outside_both one.first one.last x out) refl

  -- lists that map an address alike do so after any other list
  chosen : (is : Bool) (target : Target Kind) (p q : Option (Target Kind)) → p ≡ q
      → (if is then Some target else p) ≡ (if is then Some target else q)
  chosen is target p q same = ap (λ (other : Option (Target Kind)). if is then Some target else other) same

  pub target_in-append_same : (before one other : List (Stretch Kind)) (x : ℕ) → target_in one x ≡ target_in other x
      → target_in (before ++ one) x ≡ target_in (before ++ other) x
  target_in-append_same [] one other x same = same
  target_in-append_same (it ∷ before) one other x same =
      chosen (nat_le it.first x && nat_le x it.last) (range_target it x) _ _ (target_in-append_same before one other x same)

  -- what maps nothing at an address has no part that does
  not_chosen : (is : Bool) (target : Target Kind) (other : Option (Target Kind)) → (if is then Some target else other) ≡ None
      → (is ≡ false) × (other ≡ None)
  not_chosen true target other none = absurd cc
  not_chosen false target other none = (refl, none)

  pub target_in-append : (before after : List (Stretch Kind)) (x : ℕ) → target_in (before ++ after) x ≡ None
      → (target_in before x ≡ None) × ((other : List (Stretch Kind)) → target_in (before ++ other) x ≡ target_in other x)
  target_in-append [] after x none = (refl, λ other. refl)
  target_in-append (it ∷ before) after x none =
      let parts = not_chosen (nat_le it.first x && nat_le x it.last) (range_target it x) (target_in (before ++ after) x) none in
      let later = target_in-append before after x parts.1 in
      (rw parts.0 later.0, λ other. rw parts.0 (later.1 other))

  -- one range more among others that don't meet it
  pub filled-among : (before after : List (Stretch Kind)) (new : Stretch Kind)
      → IsUnmapped new (λ x. target_in (before ++ after) x)
      → IsFilled new (λ x. target_in (before ++ after) x) (λ x. target_in (before ++ new ∷ after) x)
  filled-among before after new unmapped = record {
    inside = λ x from to. (target_in-append before after x (unmapped x from to)).1 (new ∷ after) ∙ target_in-within new after x from to;
    outside = λ x out. target_in-append_same before (new ∷ after) after x (target_in-outside new after x out);
  }

  -- from the first byte of the one to the last byte of the other
  abbrev pub union : Stretch Kind → Stretch Kind → Stretch Kind
  union one other = record { first = one.first; last = other.last; frame = one.frame; kind = one.kind }

  pub IsPageRange-union : (one other : Stretch Kind) → IsPageRange one → IsPageRange other → IsOneWith one other
      → IsPageRange (union one other)
  IsPageRange-union one other range more joins = record {
    begins = range.begins;
    ends = more.ends;
    some = omega (arith, joins.touches, range.some, more.some);
    below = more.below;
    framed = range.framed;
    fits = omega (arith, joins.touches, joins.goes_on, range.some, more.some, more.fits);
  }

  target : ℕ → Kind → Target Kind
  target frame kind = record { frame = frame; kind = kind }

  same_target : (frame frame' : ℕ) (kind kind' : Kind) → frame ≡ frame' → kind ≡ kind' → target frame kind ≡ target frame' kind'
  same_target frame frame' kind kind' frames kinds = cc

  range_target-union : (one other : Stretch Kind) (x : ℕ) → IsPageRange one → IsOneWith one other → other.first ≤ x
      → range_target (union one other) x ≡ range_target other x
  unfolding target
  range_target-union one other x range joins from =
      same_target (one.frame + (x - one.first)) (other.frame + (x - other.first)) one.kind other.kind
      (omega (arith, joins.touches, joins.goes_on, range.some)) (sym joins.same)

  -- their union maps what the two map
  target_in-union : (one other : Stretch Kind) (rest : List (Stretch Kind)) (x : ℕ) → IsPageRange one → IsPageRange other → IsOneWith one other
      → target_in (union one other ∷ rest) x ≡ target_in (one ∷ other ∷ rest) x
  target_in-union one other rest x range more joins = elim (cases_lt x one.first) [
    | inl before ↦
        target_in-outside (union one other) rest x (inl before)
        ∙ sym (target_in-outside one (other ∷ rest) x (inl before) ∙ target_in-outside other rest x (inl (omega (arith, joins.touches, range.some))))
    | inr from ↦ elim (cases_lt one.last x) [
      | inr to ↦
          target_in-within (union one other) rest x from (omega (arith, joins.touches, more.some))
          ∙ sym (target_in-within one (other ∷ rest) x from to)
      | inl after ↦ elim (cases_lt other.last x) [
        | inl past ↦
            target_in-outside (union one other) rest x (inr past)
            ∙ sym (target_in-outside one (other ∷ rest) x (inr after) ∙ target_in-outside other rest x (inr past))
        | inr to ↦
            target_in-within (union one other) rest x from to
            ∙ (ap Some (range_target-union one other x range joins (omega (arith, joins.touches)))
            ∙ sym (target_in-outside one (other ∷ rest) x (inr after) ∙ target_in-within other rest x (omega (arith, joins.touches)) to))
      ]
    ]
  ]

  -- parts of lists
  pub ArePageRanges-split : (before after : List (Stretch Kind)) → ArePageRanges (before ++ after) → ArePageRanges before × ArePageRanges after
  ArePageRanges-split [] after ranges = (tt, ranges)
  ArePageRanges-split (it ∷ before) after ranges =
      let parts = ArePageRanges-split before after ranges.1 in
      ((ranges.0, parts.0), parts.1)

  pub ArePageRanges-append : (before after : List (Stretch Kind)) → ArePageRanges before → ArePageRanges after → ArePageRanges (before ++ after)
  ArePageRanges-append [] after ranges more = more
  ArePageRanges-append (it ∷ before) after ranges more = (ranges.0, ArePageRanges-append before after ranges.1 more)

  AreApart-rest : (one : Stretch Kind) (rest : List (Stretch Kind)) → AreApart (one ∷ rest) → AreApart rest
  AreApart-rest one [] apart = tt
  AreApart-rest one (two ∷ rest) apart = apart.2

  -- a list is apart where both parts are, up to one of the list and from it on
  AreApart-split : (before : List (Stretch Kind)) (one : Stretch Kind) (after : List (Stretch Kind)) → AreApart (before ++ one ∷ after)
      → AreApart (before ++ one ∷ []) × AreApart (one ∷ after)
  AreApart-split [] one after apart = (tt, apart)
  AreApart-split (it ∷ []) one after apart = ((apart.0, apart.1, tt), apart.2)
  AreApart-split (it ∷ two ∷ before) one after apart =
      let parts = AreApart-split (two ∷ before) one after apart.2 in
      ((apart.0, apart.1, parts.0), parts.1)

  AreApart-join : (before : List (Stretch Kind)) (one : Stretch Kind) (after : List (Stretch Kind)) → AreApart (before ++ one ∷ []) → AreApart (one ∷ after)
      → AreApart (before ++ one ∷ after)
  AreApart-join [] one after apart later = later
  AreApart-join (it ∷ []) one after apart later = (apart.0, apart.1, later)
  AreApart-join (it ∷ two ∷ before) one after apart later = (apart.0, apart.1, AreApart-join (two ∷ before) one after apart.2 later)

  -- those before one see only where it begins
  AreApart-widen : (before : List (Stretch Kind)) (one new : Stretch Kind) → AreApart (before ++ one ∷ []) → AreApart (before ++ union one new ∷ [])
  AreApart-widen [] one new apart = tt
  AreApart-widen (it ∷ []) one new apart =
      (apart.0, λ joins. apart.1 (record { touches = joins.touches; goes_on = joins.goes_on; same = joins.same }), tt)
  AreApart-widen (it ∷ two ∷ before) one new apart = (apart.0, apart.1, AreApart-widen (two ∷ before) one new apart.2)

  IsOneWith-union : (one new other : Stretch Kind) → one.first ≤ new.first → new.first ≤ other.first → IsOneWith one new
      → IsOneWith new other → IsOneWith (union one new) other
  IsOneWith-union one new other order later joins more = record {
    touches = more.touches;
    goes_on = omega (arith, joins.goes_on, more.goes_on);
    same = more.same ∙ joins.same;
  }

  union-IsOneWith : (one new other : Stretch Kind) → one.first ≤ new.first → new.first ≤ other.first → IsOneWith one new
      → IsOneWith (union one new) other → IsOneWith new other
  union-IsOneWith one new other order later joins both = record {
    touches = both.touches;
    goes_on = omega (arith, joins.goes_on, both.goes_on);
    same = both.same ∙ sym joins.same;
  }

  -- those after one see only where it ends, and what it goes on with
  AreApart-begin : (new one : Stretch Kind) (after : List (Stretch Kind)) → new.first ≤ one.first → one.first ≤ one.last → IsOneWith new one
      → AreApart (one ∷ after) → AreApart (union new one ∷ after)
  AreApart-begin new one [] order some joins apart = tt
  AreApart-begin new one (two ∷ after) order some joins apart =
      (apart.0, λ both. apart.1 (union-IsOneWith new one two order (omega (arith, apart.0)) joins both), apart.2)

  -- the second of two lists begins after a range ends
  abbrev pub BeginsAfter : Stretch Kind → List (Stretch Kind) → Type 0
  BeginsAfter one [] = Unit {0}
  BeginsAfter one (two ∷ rest) = one.last < two.first

  -- a range makes one with the first of a list
  abbrev pub JoinsFirst : Stretch Kind → List (Stretch Kind) → Type 0
  JoinsFirst one [] = ⊥
  JoinsFirst one (two ∷ rest) = IsOneWith one two

  -- a range stands among others, apart from those before it; together they map what a whole list maps
  pub record IsAmong (before : List (Stretch Kind)) (one : Stretch Kind) (after whole : List (Stretch Kind)) : Type 0 where
    pub ranges : ArePageRanges before
    pub range : IsPageRange one
    pub more : ArePageRanges after
    pub apart : AreApart (before ++ one ∷ [])
    pub later : AreApart after
    pub order : BeginsAfter one after
    pub same : (x : ℕ) → target_in (before ++ one ∷ after) x ≡ target_in whole x

  -- a list of a map that maps what a whole list maps
  pub record IsListOf (list whole : List (Stretch Kind)) : Type 0 where
    pub coalesced : AreCoalesced list
    pub same : (x : ℕ) → target_in list x ≡ target_in whole x

  AreApart-cons : (one : Stretch Kind) (after : List (Stretch Kind)) → AreApart after → BeginsAfter one after → (JoinsFirst one after → ⊥)
      → AreApart (one ∷ after)
  AreApart-cons one [] apart order not = tt
  AreApart-cons one (two ∷ after) apart order not = (order, not, apart)

  -- it makes one with none after it
  pub among-apart : (before : List (Stretch Kind)) (one : Stretch Kind) (after whole : List (Stretch Kind)) → IsAmong before one after whole
      → (JoinsFirst one after → ⊥) → IsListOf (before ++ one ∷ after) whole
  among-apart before one after whole among not = record {
    coalesced = record {
      ranges = ArePageRanges-append before (one ∷ after) among.ranges (among.range, among.more);
      apart = AreApart-join before one after among.apart (AreApart-cons one after among.later among.order not);
    };
    same = among.same;
  }

  -- it makes one with that after it
  pub among-joined : (before : List (Stretch Kind)) (one next : Stretch Kind) (after whole : List (Stretch Kind))
      → IsAmong before one (next ∷ after) whole → IsOneWith one next → IsListOf (before ++ union one next ∷ after) whole
  among-joined before one next after whole among joins = record {
    coalesced = record {
      ranges = ArePageRanges-append before (union one next ∷ after) among.ranges (IsPageRange-union one next among.range among.more.0 joins, among.more.1);
      apart = AreApart-join before (union one next) after (AreApart-widen before one next among.apart)
          (AreApart-begin one next after (omega (arith, among.order, among.range.some)) (omega (arith, among.more.0.some)) joins among.later);
    };
    same = λ x.
        target_in-append_same before (union one next ∷ after) (one ∷ next ∷ after) x (target_in-union one next after x among.range among.more.0 joins)
        ∙ among.same x;
  }

  -- a new range among others
  pub among-first : (new : Stretch Kind) (after : List (Stretch Kind)) → AreCoalesced after → IsPageRange new → BeginsAfter new after
      → IsAmong [] new after (new ∷ after)
  among-first new after coalesced range order = record {
    ranges = tt;
    range = range;
    more = coalesced.ranges;
    apart = tt;
    later = coalesced.apart;
    order = order;
    same = λ x. refl;
  }

  pub append-one : (before : List (Stretch Kind)) (one : Stretch Kind) (rest : List (Stretch Kind))
      → (before ++ one ∷ []) ++ rest ≡ before ++ one ∷ rest
  append-one [] one rest = refl
  append-one (it ∷ before) one rest = ap (λ (list : List (Stretch Kind)). it ∷ list) (append-one before one rest)

  AreApart-push : (before : List (Stretch Kind)) (previous new : Stretch Kind) → AreApart (before ++ previous ∷ []) → previous.last < new.first
      → (IsOneWith previous new → ⊥) → AreApart ((before ++ previous ∷ []) ++ new ∷ [])
  AreApart-push [] previous new apart ends not = (ends, not, tt)
  AreApart-push (it ∷ []) previous new apart ends not = (apart.0, apart.1, AreApart-push [] previous new apart.2 ends not)
  AreApart-push (it ∷ two ∷ before) previous new apart ends not = (apart.0, apart.1, AreApart-push (two ∷ before) previous new apart.2 ends not)

  module _ (before : List (Stretch Kind)) (previous new : Stretch Kind) (after : List (Stretch Kind))
      (coalesced : AreCoalesced ((before ++ previous ∷ []) ++ after)) (range : IsPageRange new) (order : BeginsAfter new after) where
    list : AreCoalesced (before ++ previous ∷ after)
    list = subst (λ (it : List (Stretch Kind)). AreCoalesced it) (append-one before previous after) coalesced

    parts : ArePageRanges before × ArePageRanges (previous ∷ after)
    parts = ArePageRanges-split before (previous ∷ after) list.ranges

    halves : AreApart (before ++ previous ∷ []) × AreApart (previous ∷ after)
    halves = AreApart-split before previous after list.apart

    -- it makes one with that before it
    pub among-union : IsOneWith previous new → IsAmong before (union previous new) after ((before ++ previous ∷ []) ++ new ∷ after)
    among-union joins = record {
      ranges = parts.0;
      range = IsPageRange-union previous new parts.1.0 range joins;
      more = parts.1.1;
      apart = AreApart-widen before previous new halves.0;
      later = AreApart-rest previous after halves.1;
      order = order;
      same = λ x.
          target_in-append_same before (union previous new ∷ after) (previous ∷ new ∷ after) x (target_in-union previous new after x parts.1.0 range joins)
          ∙ ap (λ (it : List (Stretch Kind)). target_in it x) (sym (append-one before previous (new ∷ after)));
    }

    -- it doesn't
    pub among-after : previous.last < new.first → (IsOneWith previous new → ⊥)
        → IsAmong (before ++ previous ∷ []) new after ((before ++ previous ∷ []) ++ new ∷ after)
    among-after ends not = record {
      ranges = ArePageRanges-append before (previous ∷ []) parts.0 (parts.1.0, tt);
      range = range;
      more = parts.1.1;
      apart = AreApart-push before previous new halves.0 ends not;
      later = AreApart-rest previous after halves.1;
      order = order;
      same = λ x. refl;
    }

  -- what makes one with a union makes one with its second part
  pub JoinsFirst-union : (previous new : Stretch Kind) (after : List (Stretch Kind)) → previous.first ≤ new.first → new.first ≤ new.last → IsOneWith previous new
      → BeginsAfter new after → JoinsFirst (union previous new) after → JoinsFirst new after
  JoinsFirst-union previous new [] order some joins later both = both
  JoinsFirst-union previous new (two ∷ after) order some joins later both = union-IsOneWith previous new two order (omega arith) joins both

  pub union-joins : (previous new next : Stretch Kind) → previous.first ≤ new.first → new.first ≤ next.first → IsOneWith previous new → IsOneWith new next
      → IsOneWith (union previous new) next
  union-joins previous new next order later joins more = IsOneWith-union previous new next order later joins more

  -- the range before a place among others
  pub IsPageRange-middle : (before : List (Stretch Kind)) (one : Stretch Kind) (after : List (Stretch Kind)) → ArePageRanges (before ++ one ∷ after) → IsPageRange one
  IsPageRange-middle before one after ranges = (ArePageRanges-split before (one ∷ after) ranges).1.0

  AreApart-back : (before after : List (Stretch Kind)) → AreApart (before ++ after) → AreApart after
  AreApart-back [] after apart = apart
  AreApart-back (it ∷ before) after apart = AreApart-back before after (AreApart-rest it (before ++ after) apart)

  pub AreCoalesced-rest : (before after : List (Stretch Kind)) → AreCoalesced (before ++ after) → AreCoalesced after
  AreCoalesced-rest before after coalesced = record {
    ranges = (ArePageRanges-split before after coalesced.ranges).1;
    apart = AreApart-back before after coalesced.apart;
  }

  -- an unmapped range holds no address that a range of the list holds
  meets-none : (before : List (Stretch Kind)) (new next : Stretch Kind) (after : List (Stretch Kind)) (x : ℕ)
      → IsUnmapped new (λ x. target_in (before ++ next ∷ after) x) → new.first ≤ x → x ≤ new.last → next.first ≤ x → x ≤ next.last → ⊥
  meets-none before new next after x unmapped from to low high =
      let none = (target_in-append before (next ∷ after) x (unmapped x from to)).1 (next ∷ after) in
      let both : Some (range_target next x) ≡ None = sym (target_in-within next after x low high) ∙ (sym none ∙ unmapped x from to) in
      cc

  -- a range that doesn't end before an unmapped one begins after it
  pub unmapped-after : (before : List (Stretch Kind)) (new next : Stretch Kind) (after : List (Stretch Kind)) → IsPageRange new → IsPageRange next
      → new.first ≤ next.last → IsUnmapped new (λ x. target_in (before ++ next ∷ after) x) → new.last < next.first
  unmapped-after before new next after range more order unmapped = elim (cases_lt new.last next.first) [
    | inl less ↦ less
    | inr meets ↦ elim (cases_lt next.first new.first) [
      | inl begins ↦ absurd (meets-none before new next after new.first unmapped (omega arith) (omega (arith, range.some)) (omega arith) order)
      | inr begins ↦ absurd (meets-none before new next after next.first unmapped begins meets (omega arith) (omega (arith, more.some)))
    ]
  ]
