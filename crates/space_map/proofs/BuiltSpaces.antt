-- What the walks of both halves of the top table leave: the regions of the space, and its numbers of tables and pages.
use Rattle.std.proofs.Common.{◌≡◌, ℕ, ◌+◌, ◌<◌, ◌≤◌, ◌⊎◌, inl, inr, Bool, true, false, Option, Some, None, List, [], ◌∷◌, length, refl, sym, ap, ◌∙◌, arith, length-append}
use Rattle.std.specs.Prelude.{IsTrue, if◌then◌else◌}
use Rattle.std.proofs.lemmas.Bool.{cases_lt}
use Rattle.paging_model.specs.Counting.{AtLeast}
use Rattle.paging_model.specs.Memory.{Memory}
use Rattle.paging_model.specs.LinearAddress.{is_canonical, IsPage}
use Rattle.paging_model.specs.Listings.{Stretch, AreStretches, has_page, target_in, AreRegions}
use Rattle.paging_model.specs.TableUses.{IsUse, IsTooLarge, IsWithinLimits}
use Rattle.paging_model.specs.Translations.{Target, raw_target}
use Rattle.paging_model.specs.Entries.{root_bits}
use Rattle.paging_model.specs.Walking.{walk, top_level}
use Rattle.paging_model.specs.declared.registers.Settings.{Settings}
use Rattle.paging_model.specs.declared.spaces.Region.{Region}
use Rattle.paging_model.specs.declared.spaces.TableUse.{TableUse}
use Rattle.paging_laws.specs.SpaceParts.{upper_prefix, uses_of, leaves_of}
use Rattle.paging_laws.proofs.SpaceHalves.{lower-half, upper-half, in_half}
use Rattle.paging_laws.proofs.WholeSpaces.{all-uses, too_large-by_counts, within_limits-by_counts}
use Rattle.region_map.specs.Coalesced.{ArePageRanges, AreCoalesced, range_target, stretches, target_at}
use Rattle.region_map.proofs.Joining.{target_in-within}
use Rattle.space_map.specs.PartialSpaces.{ExceedsLimits}
use Rattle.space_map.specs.Walks.{slot_first, uses_from, leaves_from, target_from}
use Rattle.space_map.specs.declared.partial.PartialSpace.{PartialSpace}
use Rattle.space_map.proofs.SlotWalks.{Walked}

module _ {Kind : Type 0} where
  some_is_none : {target : Target Kind} → Some target ≡ None → ⊥
  some_is_none same = cc

  rest_is_none : (is : Bool) (target : Target Kind) (rest : Option (Target Kind)) → (if is then Some target else rest) ≡ None → rest ≡ None
  rest_is_none true target rest none = absurd (some_is_none none)
  rest_is_none false target rest none = none

  -- ranges of pages that map no address but canonical ones
  pub are-stretches : (five_levels : Bool) (list : List (Stretch Kind)) → ArePageRanges list
      → ((x : ℕ) → (target_in list x ≡ None → ⊥) → IsTrue (is_canonical five_levels x)) → AreStretches five_levels list
  are-stretches five_levels [] ranges canonical = tt
  are-stretches five_levels (one ∷ rest) ranges canonical = (
    record {
      begins = ranges.0.begins;
      ends = ranges.0.ends;
      some = ranges.0.some;
      below = ranges.0.below;
      canonical = λ x least most. canonical x (λ none. some_is_none (sym (target_in-within one rest x least most) ∙ none));
    },
    are-stretches five_levels rest ranges.1
        (λ x some. canonical x (λ none. some (rest_is_none (has_page one x) (range_target one x) (target_in rest x) none))),
  )

module _ (memory : Memory) (settings : Settings) (root : ℕ) where
  -- the top table, as it serves the lower half, and the upper one
  abbrev pub lower_top : TableUse
  lower_top = record { level = top_level settings; prefix = 0; frame = root; bits = root_bits }

  abbrev pub upper_top : TableUse
  upper_top = record { level = top_level settings; prefix = upper_prefix settings; frame = root; bits = root_bits }

  uses-both : length (uses_of memory settings root)
      ≡ 1 + (length (uses_from memory settings lower_top 0 256) + length (uses_from memory settings upper_top 256 256))
  uses-both =
      let both = length-append (uses_from memory settings lower_top 0 256) (uses_from memory settings upper_top 256 256) in
      omega (arith, both)

  leaves-both : length (leaves_of memory settings root)
      ≡ length (leaves_from memory settings lower_top 0 256) + length (leaves_from memory settings upper_top 256 256)
  leaves-both = length-append (leaves_from memory settings lower_top 0 256) (leaves_from memory settings upper_top 256 256)

  -- the lower half ends before the upper one begins
  pub halves-apart : slot_first lower_top 256 ≤ slot_first upper_top 256
  halves-apart =
      let low = (lower-half memory settings root).ends in
      let high = (upper-half memory settings root).ends in
      omega (arith, low, high)

  -- no more uses are counted than there are
  pub at-least-uses : (n : ℕ) → n ≤ 1 + (length (uses_from memory settings lower_top 0 256) + length (uses_from memory settings upper_top 256 256))
      → AtLeast n (IsUse memory settings root)
  at-least-uses n most = record {
    things = uses_of memory settings root;
    some = (all-uses memory settings root).some;
    many = omega (arith, uses-both);
  }

  module _ (start middle : PartialSpace) (none : start.regions ≡ []) (one : start.uses ≡ 1) (no_leaf : start.leaves ≡ 0) where
    -- too many in the lower half
    pub exceeds-lower : ExceedsLimits (length (uses_from memory settings lower_top 0 256)) (length (leaves_from memory settings lower_top 0 256)) start
        → IsTooLarge memory settings root
    exceeds-lower (inl over) = (too_large-by_counts memory settings root).1 (inl (omega (arith, uses-both)))
    exceeds-lower (inr over) = (too_large-by_counts memory settings root).1 (inr (omega (arith, leaves-both)))

    module _ (lower : Walked memory settings lower_top 0 256 start middle) where
      -- too many in the upper half, besides those of the lower one
      pub exceeds-upper : ExceedsLimits (length (uses_from memory settings upper_top 256 256)) (length (leaves_from memory settings upper_top 256 256)) middle
          → IsTooLarge memory settings root
      exceeds-upper (inl over) = (too_large-by_counts memory settings root).1 (inl (omega (arith, lower.uses, uses-both)))
      exceeds-upper (inr over) = (too_large-by_counts memory settings root).1 (inr (omega (arith, lower.leaves, leaves-both)))

      module _ (end : PartialSpace) (upper : Walked memory settings upper_top 256 256 middle end) where
        pub within-limits : IsWithinLimits memory settings root
        within-limits = (within_limits-by_counts memory settings root).1 (
          omega (arith, lower.uses, upper.uses, uses-both, end.few_uses),
          omega (arith, lower.leaves, upper.leaves, leaves-both, end.few_leaves),
        )

        -- the walks from the top table are whole
        whole : (page : ℕ) → target_from memory settings (top_level settings) root root_bits page ≡ raw_target memory settings root page
        unfolding walk
        whole page = refl

        nothing : (x : ℕ) → target_at start.regions x ≡ None
        nothing x = ap (λ (it : List Region). target_at it x) none

        maps-pages : (page : ℕ) → IsPage settings.la57 page → target_at end.regions page ≡ raw_target memory settings root page
        maps-pages page is =
            let room = (lower-half memory settings root).ends in
            elim (in_half settings page is.below is.canonical) [
              | inl low ↦
                  upper.mapped.outside page (inl (omega (arith, room, low.1)))
                  ∙ (lower.mapped.inside page is.aligned low.0 low.1 ∙ whole page)
              | inr high ↦ upper.mapped.inside page is.aligned high.0 high.1 ∙ whole page
            ]

        unmapped : (x : ℕ) → slot_first lower_top (0 + 256) ≤ x → ((x < slot_first upper_top 256) ⊎ (slot_first upper_top (256 + 256) ≤ x))
            → target_at end.regions x ≡ None
        unmapped x least out = upper.mapped.outside x out ∙ (lower.mapped.outside x (inr least) ∙ nothing x)

        maps-canonical : (x : ℕ) → (target_at end.regions x ≡ None → ⊥) → IsTrue (is_canonical settings.la57 x)
        maps-canonical x some = elim (cases_lt x (slot_first lower_top (0 + 256))) [
          | inl low ↦ (lower-half memory settings root).canonical x (omega arith) low
          | inr after ↦ elim (cases_lt x (slot_first upper_top 256)) [
            | inl between ↦ absurd (some (unmapped x after (inl between)))
            | inr high ↦ elim (cases_lt x (slot_first upper_top (256 + 256))) [
              | inl less ↦ (upper-half memory settings root).canonical x high less
              | inr beyond ↦ absurd (some (unmapped x after (inr beyond)))
            ]
          ]
        ]

        pub are-regions : AreCoalesced (stretches end.regions) → AreRegions memory settings root end.regions
        are-regions coalesced = record {
          stretches = are-stretches settings.la57 (stretches end.regions) coalesced.ranges maps-canonical;
          apart = coalesced.apart;
          pages = maps-pages;
        }
