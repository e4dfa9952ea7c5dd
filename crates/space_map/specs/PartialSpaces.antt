-- What a table or a page more does to a space that is being walked, up to its limits.
-- (The limits are our own, of no manual.)
use Rattle.std.specs.Prelude.{◌≡◌, ℕ, ◌+◌, ◌<◌, ◌⊎◌, Result, MatchResult}
use Rattle.paging_model.specs.Listings.{stretch_of_region}
use Rattle.paging_model.specs.TableUses.{use_limit, leaf_limit}
use Rattle.paging_model.specs.declared.spaces.Region.{Region}
use Rattle.region_map.specs.Coalesced.{IsFilled, target_at}
use Rattle.space_map.specs.MappedRanges.{IsMappedIn, Mapping}
use Rattle.space_map.specs.declared.faults.SpaceFault.{SpaceFault}
use Rattle.space_map.specs.declared.faults.SpaceFault.TheVariants.{TooLarge}
use Rattle.space_map.specs.declared.partial.PartialSpace.{PartialSpace}

-- a table is counted
pub record HasUse (old new : PartialSpace) : Type 0 where
  pub regions : new.regions ≡ old.regions
  pub index : new.index ≡ old.index
  pub uses : new.uses ≡ old.uses + 1
  pub leaves : new.leaves ≡ old.leaves

-- it is too large only where there are as many as there may be
abbrev pub AddsUse : Result (Unit {0}) SpaceFault → PartialSpace → PartialSpace → Type 0
AddsUse result old new =
    MatchResult result (λ _. HasUse old new)
    (λ fault. fault ≡ TooLarge → old.uses ≡ use_limit)

-- a page is mapped, and counted
pub record HasLeaf (page : Region) (old new : PartialSpace) : Type 0 where
  pub filled : IsFilled (stretch_of_region page) (target_at old.regions) (target_at new.regions)
  pub index : new.index ≡ old.index
  pub uses : new.uses ≡ old.uses
  pub leaves : new.leaves ≡ old.leaves + 1

-- it is too large only where there are as many as there may be
abbrev pub AddsPage : Region → Result (Unit {0}) SpaceFault → PartialSpace → PartialSpace → Type 0
AddsPage page result old new =
    MatchResult result (λ _. HasLeaf page old new)
    (λ fault. fault ≡ TooLarge → old.leaves ≡ leaf_limit)

-- a range is mapped as it should be, and so many tables and pages are counted
pub record HasRange (low high : ℕ) (target : Mapping) (tables pages : ℕ)
    (old new : PartialSpace) : Type 0 where
  pub mapped : IsMappedIn low high target (target_at old.regions) (target_at new.regions)
  pub uses : new.uses ≡ old.uses + tables
  pub leaves : new.leaves ≡ old.leaves + pages

-- with so many tables and pages there are more than there may be
abbrev pub ExceedsLimits : ℕ → ℕ → PartialSpace → Type 0
ExceedsLimits tables pages old =
    (use_limit < old.uses + tables) ⊎ (leaf_limit < old.leaves + pages)

-- a range is added; it is too large only where its tables or its pages are too many
abbrev pub AddsRange : {Value : Type 0} → (low high : ℕ) → Mapping → (tables pages : ℕ)
    → Result Value SpaceFault → PartialSpace → PartialSpace → Type 0
AddsRange low high target tables pages result old new =
    MatchResult result (λ _. HasRange low high target tables pages old new)
    (λ fault. fault ≡ TooLarge → ExceedsLimits tables pages old)
