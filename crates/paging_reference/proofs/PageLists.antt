-- The listing of one page more, before the others.
use Rattle.std.proofs.Common.{◌≡◌, ℕ, ◌+◌, ◌-◌, ◌/◌, ◌%◌, ◌^◌, ◌<◌, ◌≤◌, ◌⊎◌, inl, inr, Bool, true, false, ◌&&◌, Option, Some, None, List, [], ◌∷◌, IsTrue, refl, sym, ap, ◌∙◌, subst, arith}
use Rattle.std.specs.Prelude.{◌==◌, ◌||◌, All, nat_le, if◌then◌else◌}
use Rattle.std.proofs.lemmas.Bool.Decides.{nat_tests}
use Rattle.std.proofs.lemmas.Bool.{cases_lt}
use Rattle.std.proofs.lemmas.List.Elements.{All-head, All-tail}
use Rattle.std.proofs.lemmas.Nat.{shr-shr}
use Rattle.paging_model.specs.Counting.{IsIn}
use Rattle.paging_model.specs.LinearAddress.{IsPage, is_canonical}
use Rattle.paging_model.specs.Listings.{Stretch, IsStretch, IsOneWith, AreApart, IsListing, target_in}
use Rattle.paging_model.specs.Translations.{Target}
use Rattle.paging_reference.specs.ListedPages.{AreAllMapped, is_one_with, page_stretch, target_among, with_first_page}

-- addresses of one page have the same bits from 12 on
same_high : (page x k n : ℕ) → 12 + k ≡ n → page % 4096 ≡ 0 → page ≤ x → x ≤ page + 4095 → x / 2 ^ n ≡ page / 2 ^ n
same_high page x k n is aligned from to =
    let low : x / 4096 ≡ page / 4096 = omega arith in
    rw (← is, ← shr-shr x 12 k, ← shr-shr page 12 k) (ap (λ m. m / 2 ^ k) low)

canonical_within : (five_levels : Bool) (page x : ℕ) → page % 4096 ≡ 0 → page ≤ x → x ≤ page + 4095 → IsTrue (is_canonical five_levels page)
    → IsTrue (is_canonical five_levels x)
canonical_within true page x aligned from to canonical =
    subst (λ (n : ℕ). IsTrue (n % 2 ^ 8 == 0 || n % 2 ^ 8 == 2 ^ 8 - 1)) (sym (same_high page x 44 56 (omega arith) aligned from to)) canonical
canonical_within false page x aligned from to canonical =
    subst (λ (n : ℕ). IsTrue (n % 2 ^ 17 == 0 || n % 2 ^ 17 == 2 ^ 17 - 1)) (sym (same_high page x 35 47 (omega arith) aligned from to)) canonical

page_stretch-is : (five_levels : Bool) (page : ℕ) (target : Target ℕ) → IsPage five_levels page → IsStretch five_levels (page_stretch page target)
page_stretch-is five_levels page target is = record {
  begins = is.aligned;
  ends = let aligned = is.aligned in omega arith;
  some = omega arith;
  below = let aligned = is.aligned in let below = is.below in omega arith;
  canonical = λ x from to. canonical_within five_levels page x is.aligned from to is.canonical;
}

other_page : (one x : ℕ) → x < one → (one == x) ≡ false
other_page one x h = grind (arith, nat_tests)

same_page : (one x : ℕ) → (one == x) ≡ true → x ≡ one
same_page one x h = grind (arith, nat_tests)

module _ (target : ℕ → Option (Target ℕ)) where
  -- nothing before the first page
  pub target_among-before : (pages : List ℕ) (x : ℕ) → All (λ other. x < other) pages → target_among pages target x ≡ None
  target_among-before [] x before = refl
  target_among-before (one ∷ rest) x before = rw (other_page one x (All-head (λ other. x < other) one rest before)) (target_among-before rest x (All-tail (λ other. x < other) one rest before))

  -- where there is something, it is at one of the pages
  after_all : (pages : List ℕ) (page x : ℕ) (there : Target ℕ) → All (λ other. page < other) pages → target_among pages target x ≡ Some there → page < x
  after_all [] page x there before is = absurd (cc)
  after_all (one ∷ rest) page x there before is =
      by (one == x) refl (All-head (λ other. page < other) one rest before) (after_all rest page x there (All-tail (λ other. page < other) one rest before)) is
    where
      by : (same : Bool) → (one == x) ≡ same → page < one → (target_among rest target x ≡ Some there → page < x)
          → (if same then target x else target_among rest target x) ≡ Some there → page < x
      by true same first later is_there = let e = same_page one x same in omega arith
      by false same first later is_there = later is_there

  module _ (five_levels : Bool) (page : ℕ) (rest : List ℕ) (list : List (Stretch ℕ)) (before : All (λ other. page < other) rest)
      (lists : IsListing five_levels (target_among rest target) list) where
    at_page : (x : ℕ) → (page == x) ≡ true → target_in list x ≡ target_among rest target x → target_in list x ≡ None
    at_page x same is = is ∙ (ap (target_among rest target) (same_page page x same) ∙ target_among-before rest page before)

    -- a page that isn't mapped
    pub listing-skip : target page ≡ None → IsListing five_levels (target_among (page ∷ rest) target) list
    listing-skip none = record {
      stretches = lists.stretches;
      apart = lists.apart;
      pages = λ x is. by x (page == x) refl (lists.pages x is);
    }
      where
        by : (x : ℕ) (same : Bool) → (page == x) ≡ same → target_in list x ≡ target_among rest target x
            → target_in list x ≡ (if same then target x else target_among rest target x)
        by x true same is = at_page x same is ∙ sym (ap target (same_page page x same) ∙ none)
        by x false same is = is

inside : (first last x : ℕ) → first ≤ x → x ≤ last → (nat_le first x && nat_le x last) ≡ true
inside first last x from to = grind (arith, nat_tests)

before_first : (first last x : ℕ) → x < first → (nat_le first x && nat_le x last) ≡ false
before_first first last x h = grind (arith, nat_tests)

after_last : (first last x : ℕ) → last < x → (nat_le first x && nat_le x last) ≡ false
after_last first last x h = grind (arith, nat_tests)

not_same : (page x : ℕ) → (page == x) ≡ false → (x < page) ⊎ (page < x)
not_same page x differs = elim (cases_lt x page) [ inl before ↦ inl before | inr from ↦ inr (later (cases_lt page x) from) ]
  where
    later : (page < x) ⊎ (x ≤ page) → page ≤ x → page < x
    later (inl after) from = after
    later (inr to) from = absurd (clash differs (same page x (omega arith)))
      where
        same : (m n : ℕ) → m ≡ n → (m == n) ≡ true
        same m n h = grind (arith, nat_tests)

        clash : {b : Bool} → b ≡ false → b ≡ true → ⊥
        clash e f = cc

abbrev target_at : ℕ → ℕ → Target ℕ
target_at frame kind = record { frame = frame; kind = kind }

three_equal : (a b c d e f : ℕ) → (a == b && c == d && e == f) ≡ true → (a ≡ b) × (c ≡ d) × (e ≡ f)
three_equal a b c d e f h = (grind (arith, nat_tests), grind (arith, nat_tests), grind (arith, nat_tests))

three_tests : (a b c d e f : ℕ) → a ≡ b → c ≡ d → e ≡ f → (a == b && c == d && e == f) ≡ true
three_tests a b c d e f h k l = grind (arith, nat_tests)

module _ (target : ℕ → Option (Target ℕ)) (five_levels : Bool) (page : ℕ) (rest : List ℕ) (before : All (λ other. page < other) rest)
    (is_page : IsPage five_levels page) (there : Target ℕ) (maps : target page ≡ Some there) where
  -- the page has its target, and all others what they had
  pages_with : (list list' : List (Stretch ℕ)) → IsListing five_levels (target_among rest target) list → target_in list' page ≡ Some there
      → ((x : ℕ) → IsPage five_levels x → (x < page) ⊎ (page < x) → target_in list' x ≡ target_in list x)
      → (x : ℕ) → IsPage five_levels x → target_in list' x ≡ target_among (page ∷ rest) target x
  pages_with list list' lists here elsewhere x is = by (page == x) refl
    where
      by : (same : Bool) → (page == x) ≡ same → target_in list' x ≡ (if same then target x else target_among rest target x)
      by true same =
          let e : x ≡ page = same_page page x same in
          ap (target_in list') e ∙ (here ∙ (sym maps ∙ sym (ap target e)))
      by false same = elsewhere x is (not_same page x same) ∙ lists.pages x is

  own_target : (others : List (Stretch ℕ)) → target_in (page_stretch page there ∷ others) page ≡ Some there
  own_target others =
      let first : page - page ≡ 0 = omega arith in
      let frame : there.frame + (page - page) ≡ there.frame = omega arith in
      rw (inside page (page + 4095) page (omega arith) (omega arith)) (ap (λ n. Some (target_at n there.kind)) frame)

  other_target : (others : List (Stretch ℕ)) (x : ℕ) → IsPage five_levels x → (x < page) ⊎ (page < x)
      → target_in (page_stretch page there ∷ others) x ≡ target_in others x
  other_target others x is (inl earlier) = rw (before_first page (page + 4095) x earlier) refl
  other_target others x is (inr later) =
      let of_x = is.aligned in
      let of_page = is_page.aligned in
      let after : page + 4095 < x = omega arith in
      rw (after_last page (page + 4095) x after) refl

  first_after : (next : Stretch ℕ) (others : List (Stretch ℕ)) → IsListing five_levels (target_among rest target) (next ∷ others) → page < next.first
  first_after next others lists =
      let is = lists.stretches.0 in
      let some = is.some in
      let frame : target_in (next ∷ others) next.first ≡ Some (target_at (next.frame + (next.first - next.first)) next.kind) =
      rw (inside next.first next.last next.first (omega arith) (omega arith)) refl in
      let is_first : IsPage five_levels next.first = record {
        below = let below = is.below in omega arith;
        aligned = is.begins;
        canonical = is.canonical next.first (omega arith) (omega arith);
      } in
      after_all target rest page next.first (target_at (next.frame + (next.first - next.first)) next.kind) before
      (sym (lists.pages next.first is_first) ∙ frame)

  -- the page goes into the range after it
  module _ (next : Stretch ℕ) (others : List (Stretch ℕ)) (lists : IsListing five_levels (target_among rest target) (next ∷ others))
      (touches : next.first ≡ page + 4096) (goes_on : next.frame ≡ there.frame + 4096) (same : next.kind ≡ there.kind) where
    both : Stretch ℕ
    both = record next { first = page; frame = there.frame }

    both-is : IsStretch five_levels both
    unfolding both
    both-is = record {
      begins = is_page.aligned;
      ends = lists.stretches.0.ends;
      some = let some = lists.stretches.0.some in omega arith;
      below = lists.stretches.0.below;
      canonical = λ x from to. elim (cases_lt x next.first) [
        | inl earlier ↦ canonical_within five_levels page x is_page.aligned from (omega arith) is_page.canonical
        | inr later ↦ lists.stretches.0.canonical x later to
      ];
    }

    both-apart : (after : List (Stretch ℕ)) → AreApart (next ∷ after) → AreApart (both ∷ after)
    unfolding both
    both-apart [] apart = tt
    both-apart (two ∷ after) apart = (
      apart.0,
      λ one. apart.1 (record {
        touches = one.touches;
        goes_on = let on = one.goes_on in let touch = one.touches in let some = lists.stretches.0.some in omega arith;
        same = one.same;
      }),
      apart.2,
    )

    both-here : target_in (both ∷ others) page ≡ Some there
    unfolding both
    both-here =
        let some = lists.stretches.0.some in
        let frame : there.frame + (page - page) ≡ there.frame = omega arith in
        rw (inside page next.last page (omega arith) (omega arith)) (ap (λ n. Some (target_at n next.kind)) frame ∙ ap (λ n. Some (target_at there.frame n)) same)

    both-elsewhere : (x : ℕ) → IsPage five_levels x → (x < page) ⊎ (page < x) → target_in (both ∷ others) x ≡ target_in (next ∷ others) x
    unfolding both
    both-elsewhere x is (inl earlier) =
        rw (before_first page next.last x earlier, before_first next.first next.last x (omega arith)) refl
    both-elsewhere x is (inr later) =
        let of_x = is.aligned in
        let of_page = is_page.aligned in
        let from : next.first ≤ x = omega arith in
        elim (cases_lt next.last x) [
          | inl after ↦ rw (after_last page next.last x after, after_last next.first next.last x after) refl
          | inr to ↦
              let frame : there.frame + (x - page) ≡ next.frame + (x - next.first) = omega arith in
              rw (inside page next.last x (omega arith) to, inside next.first next.last x from to) (ap (λ n. Some (target_at n next.kind)) frame)
        ]

    pub listing-joined : IsListing five_levels (target_among (page ∷ rest) target) (record next { first = page; frame = there.frame } ∷ others)
    unfolding both
    listing-joined = record {
      stretches = (both-is, lists.stretches.1);
      apart = both-apart others lists.apart;
      pages = pages_with (next ∷ others) (both ∷ others) lists both-here both-elsewhere;
    }

  -- the page begins a range of its own
  listing-apart : (next : Stretch ℕ) (others : List (Stretch ℕ)) → IsListing five_levels (target_among rest target) (next ∷ others)
      → is_one_with page there next ≡ false
      → IsListing five_levels (target_among (page ∷ rest) target) (page_stretch page there ∷ next ∷ others)
  listing-apart next others lists differs = record {
    stretches = (page_stretch-is five_levels page there is_page, lists.stretches);
    apart = (
      let after = first_after next others lists in let begins = lists.stretches.0.begins in let of_page = is_page.aligned in omega arith,
      λ one. not_one one,
      lists.apart,
    );
    pages = pages_with (next ∷ others) (page_stretch page there ∷ next ∷ others) lists (own_target (next ∷ others)) (other_target (next ∷ others));
  }
    where
      clash : {b : Bool} → b ≡ false → b ≡ true → ⊥
      clash e f = cc

      not_one : IsOneWith (page_stretch page there) next → ⊥
      not_one one =
          let touch : next.first ≡ page + 4095 + 1 = one.touches in
          let on : next.frame ≡ there.frame + (next.first - page) = one.goes_on in
          clash differs (three_tests next.first (page + 4096) next.frame (there.frame + 4096) next.kind there.kind (omega arith) (omega arith) one.same)

  pub listing-with : (list : List (Stretch ℕ)) → IsListing five_levels (target_among rest target) list
      → IsListing five_levels (target_among (page ∷ rest) target) (with_first_page page there list)
  listing-with [] lists = record {
    stretches = (page_stretch-is five_levels page there is_page, tt);
    apart = tt;
    pages = pages_with [] (page_stretch page there ∷ []) lists (own_target []) (other_target []);
  }
  listing-with (next ∷ others) lists = by (is_one_with page there next) refl
    where
      by : (one : Bool) → is_one_with page there next ≡ one
          → IsListing five_levels (target_among (page ∷ rest) target)
          (if one then (record next { first = page; frame = there.frame }) ∷ others else page_stretch page there ∷ next ∷ others)
      by true is =
          let parts = three_equal next.first (page + 4096) next.frame (there.frame + 4096) next.kind there.kind is in
          listing-joined next others lists parts.0 parts.1 parts.2
      by false is = listing-apart next others lists is

-- the listing of pages among which each is that is mapped
module _ (target : ℕ → Option (Target ℕ)) where
  target_among-listed : (pages : List ℕ) (x : ℕ) → IsIn x pages → target_among pages target x ≡ target x
  target_among-listed [] x is_in = elim is_in [ ]
  target_among-listed (one ∷ rest) x (inl here) = rw (tested one x (sym here)) refl
    where
      tested : (m n : ℕ) → m ≡ n → (m == n) ≡ true
      tested m n h = grind (arith, nat_tests)
  target_among-listed (one ∷ rest) x (inr later) = by (one == x) (target_among-listed rest x later)
    where
      by : (same : Bool) → target_among rest target x ≡ target x → (if same then target x else target_among rest target x) ≡ target x
      by true is = refl
      by false is = is

  target_among-none : (pages : List ℕ) (x : ℕ) → target x ≡ None → target_among pages target x ≡ None
  target_among-none [] x none = refl
  target_among-none (one ∷ rest) x none = by (one == x) (target_among-none rest x none)
    where
      by : (same : Bool) → target_among rest target x ≡ None → (if same then target x else target_among rest target x) ≡ None
      by true is = none
      by false is = is

  pub listing-whole : (five_levels : Bool) (pages : List ℕ) (list : List (Stretch ℕ)) → AreAllMapped five_levels target pages
      → IsListing five_levels (target_among pages target) list → IsListing five_levels target list
  listing-whole five_levels pages list all lists = record {
    stretches = lists.stretches;
    apart = lists.apart;
    pages = λ x is. lists.pages x is ∙ by x is (target x) refl;
  }
    where
      by : (x : ℕ) → IsPage five_levels x → (there : Option (Target ℕ)) → target x ≡ there → target_among pages target x ≡ target x
      by x is None none = target_among-none pages x none ∙ sym none
      by x is (Some there) some = target_among-listed pages x (all x there is some)
