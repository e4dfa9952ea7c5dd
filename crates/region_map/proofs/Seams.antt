-- Where two lists meet: what they map says whether they are one list of a map.
use Rattle.std.proofs.Common.{◌≡◌, ℕ, ◌+◌, ◌-◌, ◌<◌, ◌≤◌, inl, inr, Option, Some, None, List, [], ◌∷◌, ◌++◌, refl, sym, ap, ◌∙◌, arith}
use Rattle.std.proofs.lemmas.Bool.{cases_lt}
use Rattle.std.proofs.lemmas.Option.{same_Some}
use Rattle.paging_model.specs.Listings.{Stretch, IsOneWith, AreApart, target_in}
use Rattle.paging_model.specs.Translations.{Target}
use Rattle.region_map.specs.Coalesced.{AreCoalesced, IsCopied, range_target}
use Rattle.region_map.proofs.Joining.{ArePageRanges-append, AreCoalesced-rest, target_in-append, target_in-append_same, target_in-outside, target_in-within}
use Rattle.region_map.proofs.Mapping.{AreCoalesced-front, never-both, none-below, none-of, none-up_to, target_in-after_none, target_in-before_none, target_in-same_append}

module _ {Kind : Type 0} where
  abbrev to_frame : ℕ → Kind → Target Kind
  to_frame frame kind = record { frame = frame; kind = kind }

  same_frame : (frame frame' : ℕ) (kind kind' : Kind) → frame ≡ frame' → kind ≡ kind' → to_frame frame kind ≡ to_frame frame' kind'
  same_frame frame frame' kind kind' frames kinds =
      ap (λ (it : ℕ). to_frame it kind) frames ∙ ap (λ (it : Kind). to_frame frame' it) kinds

  -- what the next byte is mapped to where a range goes on
  abbrev next_target : Target Kind → Target Kind
  next_target target = record { frame = target.frame + 1; kind = target.kind }

  -- what one map has stands before what another has, and does not go on in it
  pub record IsApartBefore (one other : ℕ → Option (Target Kind)) : Type 0 where
    pub order : (x y : ℕ) (t u : Target Kind) → one x ≡ Some t → other y ≡ Some u → x < y
    pub apart : (x : ℕ) (t : Target Kind) → one x ≡ Some t → other (x + 1) ≡ Some (next_target t) → ⊥

  some-later : (one : Stretch Kind) (rest : List (Stretch Kind)) (x : ℕ) (t : Target Kind) → AreCoalesced (one ∷ rest) → target_in rest x ≡ Some t
      → target_in (one ∷ rest) x ≡ Some t
  some-later one rest x t coalesced is = elim (cases_lt one.last x) [
    | inl past ↦ target_in-outside one rest x (inr past) ∙ is
    | inr to ↦ absurd (never-both t (target_in rest x) is (none-up_to one rest x coalesced.ranges.1 coalesced.apart to))
  ]

  apart-meeting : (one two : Stretch Kind) (after : List (Stretch Kind)) → AreCoalesced (one ∷ []) → AreCoalesced (two ∷ after)
      → IsApartBefore (λ x. target_in (one ∷ []) x) (λ x. target_in (two ∷ after) x) → IsOneWith one two → ⊥
  apart-meeting one two after before later seam joins =
      seam.apart one.last (range_target one one.last)
      (target_in-within one [] one.last (omega (arith, before.ranges.0.some)) (omega arith))
      (target_in-within two after (one.last + 1) (omega (arith, joins.touches)) (omega (arith, joins.touches, later.ranges.0.some))
      ∙ ap Some (same_frame (two.frame + (one.last + 1 - two.first)) (one.frame + (one.last - one.first) + 1) two.kind one.kind
      (omega (arith, joins.touches, joins.goes_on, before.ranges.0.some)) joins.same))

  joined-apart : (before after : List (Stretch Kind)) → AreCoalesced before → AreCoalesced after
      → IsApartBefore (λ x. target_in before x) (λ x. target_in after x) → AreApart (before ++ after)
  joined-apart [] after first later seam = later.apart
  joined-apart (one ∷ []) [] first later seam = tt
  joined-apart (one ∷ []) (two ∷ after) first later seam = (
    seam.order one.last two.first (range_target one one.last) (range_target two two.first)
        (target_in-within one [] one.last (omega (arith, first.ranges.0.some)) (omega arith))
        (target_in-within two after two.first (omega arith) (omega (arith, later.ranges.0.some))),
    apart-meeting one two after first later seam,
    later.apart,
  )
  joined-apart (one ∷ two ∷ before) after first later seam = (
    first.apart.0,
    first.apart.1,
    joined-apart (two ∷ before) after (AreCoalesced-rest (one ∷ []) (two ∷ before) first) later (record {
      order = λ x y t u is more. seam.order x y t u (some-later one (two ∷ before) x t first is) more;
      apart = λ x t is more. seam.apart x t (some-later one (two ∷ before) x t first is) more;
    }),
  )

  -- two lists that are apart make one
  pub coalesced-append : (before after : List (Stretch Kind)) → AreCoalesced before → AreCoalesced after
      → IsApartBefore (λ x. target_in before x) (λ x. target_in after x) → AreCoalesced (before ++ after)
  coalesced-append before after first later seam = record {
    ranges = ArePageRanges-append before after first.ranges later.ranges;
    apart = joined-apart before after first later seam;
  }

  -- the second part of a list maps nothing up to the end of a range before both
  none-behind : (one : Stretch Kind) (before after : List (Stretch Kind)) (x : ℕ) → AreCoalesced (one ∷ (before ++ after)) → x ≤ one.last
      → target_in after x ≡ None
  none-behind one before after x coalesced to =
      let none = none-up_to one (before ++ after) x coalesced.ranges.1 coalesced.apart to in
      sym ((target_in-append before after x none).1 after) ∙ none

  -- the parts of one list are apart
  pub part-order : (before after : List (Stretch Kind)) (x y : ℕ) (t u : Target Kind) → AreCoalesced (before ++ after)
      → target_in before x ≡ Some t → target_in after y ≡ Some u → x < y
  part-order [] after x y t u coalesced is more = absurd (never-both t None is refl)
  part-order (one ∷ before) after x y t u coalesced is more = elim (cases_lt one.last x) [
    | inl past ↦
        part-order before after x y t u (AreCoalesced-rest (one ∷ []) (before ++ after) coalesced)
        (sym (target_in-outside one before x (inr past)) ∙ is) more
    | inr to ↦ elim (cases_lt one.last y) [
      | inl less ↦ omega arith
      | inr none ↦ absurd (never-both u (target_in after y) more (none-behind one before after y coalesced none))
    ]
  ]

  goes_on-meeting : (one two : Stretch Kind) (x : ℕ) → one.first ≤ x → x ≡ one.last → two.first ≡ x + 1
      → range_target two (x + 1) ≡ next_target (range_target one x) → IsOneWith one two
  goes_on-meeting one two x from last touches same =
      let frames = ap (λ (it : Target Kind). it.frame) same in
      record {
        touches = omega (arith, touches, last);
        goes_on = omega (arith, frames, touches, last, from);
        same = ap (λ (it : Target Kind). it.kind) same;
      }

  part-last : (one : Stretch Kind) (before after : List (Stretch Kind)) (x : ℕ) (t : Target Kind) → AreCoalesced (one ∷ (before ++ after))
      → one.first ≤ x → x ≡ one.last → t ≡ range_target one x → target_in after (x + 1) ≡ Some (next_target t) → ⊥
  part-last one [] [] x t coalesced from last is more = never-both (next_target t) None more refl
  part-last one [] (two ∷ after) x t coalesced from last is more = elim (cases_lt (x + 1) two.first) [
    | inl below ↦
        never-both (next_target t) (target_in (two ∷ after) (x + 1)) more
        (none-below two after (x + 1) (AreCoalesced-rest (one ∷ []) (two ∷ after) coalesced) below)
    | inr begun ↦
        let touches : two.first ≡ x + 1 = omega (arith, coalesced.apart.0, last) in
        let there = target_in-within two after (x + 1) begun (omega (arith, touches, coalesced.ranges.1.0.some)) in
        coalesced.apart.1 (goes_on-meeting one two x from last touches
        (same_Some (range_target two (x + 1)) (next_target (range_target one x))
        (sym there ∙ (more ∙ ap (λ (it : Target Kind). Some (next_target it)) is))))
  ]
  part-last one (two ∷ before) after x t coalesced from last is more =
      let rest = AreCoalesced-rest (one ∷ []) ((two ∷ before) ++ after) coalesced in
      let less = part-order (two ∷ before) after two.first (x + 1) (range_target two two.first) (next_target t) rest
      (target_in-within two before two.first (omega arith) (omega (arith, rest.ranges.0.some))) more in
      omega (arith, less, last, coalesced.apart.0)

  pub part-apart : (before after : List (Stretch Kind)) (x : ℕ) (t : Target Kind) → AreCoalesced (before ++ after)
      → target_in before x ≡ Some t → target_in after (x + 1) ≡ Some (next_target t) → ⊥
  part-apart [] after x t coalesced is more = never-both t None is refl
  part-apart (one ∷ before) after x t coalesced is more = elim (cases_lt x one.first) [
    | inl below ↦
        part-apart before after x t (AreCoalesced-rest (one ∷ []) (before ++ after) coalesced)
        (sym (target_in-outside one before x (inl below)) ∙ is) more
    | inr from ↦ elim (cases_lt one.last x) [
      | inl past ↦
          part-apart before after x t (AreCoalesced-rest (one ∷ []) (before ++ after) coalesced)
          (sym (target_in-outside one before x (inr past)) ∙ is) more
      | inr to ↦ elim (cases_lt one.last (x + 1)) [
        | inl ends ↦
            part-last one before after x t coalesced from (omega (arith, to, ends))
            (same_Some t (range_target one x) (sym is ∙ target_in-within one before x from to)) more
        | inr none ↦ never-both (next_target t) (target_in after (x + 1)) more (none-behind one before after (x + 1) coalesced none)
      ]
    ]
  ]

  -- a list of a map, whose addresses of a range are mapped as another map says, and all others as an old list does
  pub record IsEdited (first last : ℕ) (target : ℕ → Option (Target Kind)) (old new : List (Stretch Kind)) : Type 0 where
    pub coalesced : AreCoalesced new
    pub copied : IsCopied first last target (λ x. target_in old x) (λ x. target_in new x)

  -- an edit before what begins after the range and the byte after it
  pub edited-before : (first last : ℕ) (target : ℕ → Option (Target Kind)) (old new after : List (Stretch Kind)) → AreCoalesced (old ++ after)
      → ((y : ℕ) (u : Target Kind) → target_in after y ≡ Some u → last + 1 < y)
      → IsEdited first last target old new → IsEdited first last target (old ++ after) (new ++ after)
  edited-before first last target old new after coalesced behind edited = record {
    coalesced = coalesced-append new after edited.coalesced (AreCoalesced-rest old after coalesced) (record {
      order = λ x y t u is more. elim (cases_lt x first) [
        | inl before ↦ part-order old after x y t u coalesced (sym (edited.copied.outside x (inl before)) ∙ is) more
        | inr from ↦ elim (cases_lt last x) [
          | inl past ↦ part-order old after x y t u coalesced (sym (edited.copied.outside x (inr past)) ∙ is) more
          | inr to ↦ omega (arith, behind y u more)
        ]
      ];
      apart = λ x t is more.
          part-apart old after x t coalesced (sym (edited.copied.outside x (inr (omega (arith, behind (x + 1) (next_target t) more)))) ∙ is) more;
    });
    copied = record {
      inside = λ x from to.
          target_in-after_none new after x (none-of (target_in after x) (λ u is. omega (arith, behind x u is, to))) ∙ edited.copied.inside x from to;
      outside = λ x out. target_in-same_append new old after x (edited.copied.outside x out);
    };
  }

  -- an edit after what ends before the range and the byte before it
  pub edited-after : (first last : ℕ) (target : ℕ → Option (Target Kind)) (before old new : List (Stretch Kind)) → AreCoalesced (before ++ old)
      → ((x : ℕ) (t : Target Kind) → target_in before x ≡ Some t → x + 1 < first)
      → IsEdited first last target old new → IsEdited first last target (before ++ old) (before ++ new)
  edited-after first last target before old new coalesced ends edited = record {
    coalesced = coalesced-append before new (AreCoalesced-front before old coalesced) edited.coalesced (record {
      order = λ x y t u is more. elim (cases_lt y first) [
        | inl below ↦ part-order before old x y t u coalesced is (sym (edited.copied.outside y (inl below)) ∙ more)
        | inr from ↦ omega (arith, ends x t is)
      ];
      apart = λ x t is more. part-apart before old x t coalesced is (sym (edited.copied.outside (x + 1) (inl (ends x t is))) ∙ more);
    });
    copied = record {
      inside = λ x from to.
          target_in-before_none before new x (none-of (target_in before x) (λ t is. omega (arith, ends x t is, from))) ∙ edited.copied.inside x from to;
      outside = λ x out. target_in-append_same before new old x (edited.copied.outside x out);
    };
  }
