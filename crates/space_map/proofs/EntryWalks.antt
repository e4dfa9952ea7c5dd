-- The walk of one entry, by what it means.
use Rattle.std.proofs.Common.{◌≡◌, ℕ, ◌+◌, ◌-◌, ◌*◌, ◌/◌, ◌%◌, ◌^◌, ◌<◌, ◌≤◌, inl, inr, length, arith, sym, ap, ◌∙◌, subst, Bool, Option, Some}
use Rattle.std.proofs.lemmas.Nat.{mod-mul-add, div-add-mod'}
use Rattle.paging_model.specs.Memory.{Memory}
use Rattle.paging_model.specs.LinearAddress.{span}
use Rattle.paging_model.specs.Entries.{IsFrame, entry_of, joined_bits}
use Rattle.paging_model.specs.TableUses.{use_limit, leaf_limit}
use Rattle.paging_model.specs.Translations.{Target, Protection, raw_target_of}
use Rattle.paging_model.specs.Walking.{walk_from, at_entry, own_frame}
use Rattle.paging_model.specs.declared.registers.Settings.{Settings}
use Rattle.paging_model.specs.declared.entries.Bits.{Bits}
use Rattle.paging_model.specs.declared.entries.Entry.{Entry}
use Rattle.paging_model.specs.declared.entries.Entry.TheVariants as entry
use Rattle.paging_model.specs.declared.spaces.Region.{Region}
use Rattle.paging_model.specs.declared.spaces.TableUse.{TableUse}
use Rattle.paging_laws.specs.EntryParts.{uses_at, leaves_at}
use Rattle.region_map.specs.Coalesced.{target_at}
use Rattle.space_map.specs.MappedRanges.{IsMappedIn, IsClear, Mapping}
use Rattle.space_map.specs.PartialSpaces.{HasUse, HasLeaf, HasRange, ExceedsLimits}
use Rattle.space_map.specs.Walks.{IsWalkable, slot_first, uses_from, leaves_from, target_from, meaning, target_by}
use Rattle.space_map.specs.declared.partial.PartialSpace.{PartialSpace}
use Rattle.space_map.proofs.MappedRanges.{mapped-same}
use Rattle.space_map.proofs.Spans.{span_down}
use Rattle.space_map.proofs.SlotWalks.{Walked}

-- what is said of a range goes by regions and numbers alone
pub range-same : (low high : ℕ) (target : Mapping) (tables pages : ℕ) (old new same : PartialSpace) → same.regions ≡ new.regions
    → same.uses ≡ new.uses → same.leaves ≡ new.leaves → HasRange low high target tables pages old new → HasRange low high target tables pages old same
range-same low high target tables pages old new same regions uses leaves has = record {
  mapped = record {
    inside = λ page is least less. ap (λ it. target_at it page) regions ∙ has.mapped.inside page is least less;
    outside = λ x out. ap (λ it. target_at it x) regions ∙ has.mapped.outside x out;
  };
  uses = uses ∙ has.uses;
  leaves = leaves ∙ has.leaves;
}

-- the table that an entry references
module _ (memory : Memory) (settings : Settings) (level first : ℕ) (above : Bits) (value frame : ℕ) (bits : Bits) (least : 2 ≤ level)
    (means : entry.Table frame bits ≡ entry_of level settings value) where
  abbrev below : TableUse
  below = record { level = level - 1; prefix = first; frame = frame; bits = joined_bits above bits }

  -- it is served by the entries of the level below
  pub below-walkable : level ≤ 5 → IsFrame frame → first % span level ≡ 0 → first + span level ≤ 2 ^ 64 → IsWalkable below
  below-walkable most framed begins ends =
      let down = span_down level least in
      record {
        least = omega arith;
        most = omega arith;
        framed = framed;
        begins = rw down begins;
        ends = omega arith;
      }

  pub uses-table : length (uses_at memory settings level first above (meaning settings level (Some value)))
      ≡ 1 + length (uses_from memory settings below 0 512)
  uses-table = ap (λ (it : Entry). length (uses_at memory settings level first above (Some it))) (sym means) ∙ omega arith

  leaves-table : length (leaves_at memory settings level first above (meaning settings level (Some value)))
      ≡ length (leaves_from memory settings below 0 512)
  leaves-table = ap (λ (it : Entry). length (leaves_at memory settings level first above (Some it))) (sym means)

  target-table : (page : ℕ) → target_by memory settings level above (Some value) page ≡ target_from memory settings (level - 1) frame (joined_bits above bits) page
  target-table page =
      ap (λ (it : Entry). raw_target_of (at_entry (λ frame bits. walk_from memory settings (level - 1) page frame bits) level page above it)) (sym means)

  pub table-walked : (old between new : PartialSpace) → HasUse old between → Walked memory settings below 0 512 between new
      → HasRange first (first + span level) (target_by memory settings level above (Some value))
      (length (uses_at memory settings level first above (meaning settings level (Some value))))
      (length (leaves_at memory settings level first above (meaning settings level (Some value)))) old new
  table-walked old between new counted walked =
      let down = span_down level least in
      let regions : target_at between.regions ≡ target_at old.regions = ap target_at counted.regions in
      record {
        mapped =
            mapped-same (slot_first below 0) (slot_first below (0 + 512)) first (first + span level) _ _ _ _ (omega arith) (omega arith)
            (subst (λ (it : ℕ → Option (Target Protection)). IsMappedIn (slot_first below 0) (slot_first below (0 + 512)) (target_from memory settings (level - 1) frame (joined_bits above bits)) it (target_at new.regions)) regions walked.mapped)
            (λ page is low high. target-table page);
        uses = omega (arith, walked.uses, counted.uses, uses-table);
        leaves = omega (arith, walked.leaves, counted.leaves, leaves-table);
      }

  pub table-exceeds : (old between : PartialSpace) → HasUse old between
      → ExceedsLimits (length (uses_from memory settings below 0 512)) (length (leaves_from memory settings below 0 512)) between
      → ExceedsLimits (length (uses_at memory settings level first above (meaning settings level (Some value))))
      (length (leaves_at memory settings level first above (meaning settings level (Some value)))) old
  table-exceeds old between counted (inl over) = inl (omega (arith, counted.uses, uses-table))
  table-exceeds old between counted (inr over) = inr (omega (arith, counted.leaves, leaves-table))

  -- the table itself is one too many
  pub use-exceeds : (old : PartialSpace) → old.uses ≡ use_limit
      → ExceedsLimits (length (uses_at memory settings level first above (meaning settings level (Some value))))
      (length (leaves_at memory settings level first above (meaning settings level (Some value)))) old
  use-exceeds old full = inl (omega (arith, uses-table))

  -- its range is clear
  pub clear-table : (old between : PartialSpace) → HasUse old between → IsClear first (first + span level) (target_at old.regions)
      → IsClear (slot_first below 0) (slot_first below (0 + 512)) (target_at between.regions)
  clear-table old between counted clear =
      let down = span_down level least in
      record { none = λ x low high. ap (λ regions. target_at regions x) counted.regions ∙ clear.none x (omega arith) (omega arith) }

-- the place of an address in a range that begins at a multiple of its length
mod-range : (w first y : ℕ) → first % w ≡ 0 → first ≤ y → y < first + w → y % w ≡ y - first
mod-range w first y whole low high =
    let is : first ≡ first / w * w = omega (arith, div-add-mod' first w) in
    let e : y ≡ first / w * w + (y - first) = omega arith in
    ap (λ (z : ℕ). z % w) e ∙ mod-mul-add (first / w) w (y - first) (omega arith)

own-place : (w first page : ℕ) → first % w ≡ 0 → first % 4096 ≡ 0 → page % 4096 ≡ 0 → first ≤ page → page < first + w
    → page - first ≡ page % w / 4096 * 4096
own-place w first page whole pages is_page low high =
    let at = mod-range w first page whole low high in
    let place : (page - first) / 4096 * 4096 ≡ page - first = omega arith in
    sym (ap (λ (n : ℕ). n / 4096 * 4096) at ∙ place)

-- the page that an entry maps
module _ (memory : Memory) (settings : Settings) (level first : ℕ) (above : Bits) (value frame : ℕ) (bits : Bits) (key : ℕ) (global : Bool)
    (means : entry.Leaf frame bits key global ≡ entry_of level settings value) where
  uses-leaf : length (uses_at memory settings level first above (meaning settings level (Some value))) ≡ 0
  uses-leaf = ap (λ (it : Entry). length (uses_at memory settings level first above (Some it))) (sym means)

  leaves-leaf : length (leaves_at memory settings level first above (meaning settings level (Some value))) ≡ 1
  leaves-leaf = ap (λ (it : Entry). length (leaves_at memory settings level first above (Some it))) (sym means)

  target-leaf : (page : ℕ) → target_by memory settings level above (Some value) page
      ≡ Some (record { frame = own_frame level page frame; kind = record { bits = joined_bits above bits; key = key } })
  target-leaf page =
      ap (λ (it : Entry). raw_target_of (at_entry (λ frame bits. walk_from memory settings (level - 1) page frame bits) level page above it)) (sym means)

  pub leaf-walked : (old new : PartialSpace) (region : Region) (joined : Bits) → joined ≡ joined_bits above bits
      → region ≡ record { first = first; last = first + (span level - 1); frame = frame; bits = joined; key = key }
      → first % span level ≡ 0 → first % 4096 ≡ 0 → 1 ≤ span level → HasLeaf region old new
      → HasRange first (first + span level) (target_by memory settings level above (Some value))
      (length (uses_at memory settings level first above (meaning settings level (Some value))))
      (length (leaves_at memory settings level first above (meaning settings level (Some value)))) old new
  leaf-walked old new region joined joins is whole pages some has =
      let here : HasLeaf (record { first = first; last = first + (span level - 1); frame = frame; bits = joined; key = key }) old new = rw is at has in
      record {
        mapped = record {
          inside = λ page is_page low high.
              here.filled.inside page low (omega arith)
              ∙ (ap (λ (it : Bits). Some (record { frame = frame + (page - first); kind = record { bits = it; key = key } })) joins
              ∙ (ap (λ (d : ℕ). Some (record { frame = frame + d; kind = record { bits = joined_bits above bits; key = key } }))
              (own-place (span level) first page whole pages is_page low high) ∙ sym (target-leaf page)));
          outside = λ x out. here.filled.outside x (elim out [ inl before ↦ inl before | inr after ↦ inr (omega arith) ]);
        };
        uses = omega (arith, here.uses, uses-leaf);
        leaves = omega (arith, here.leaves, leaves-leaf);
      }

  -- the page is one too many
  pub leaf-exceeds : (old : PartialSpace) → old.leaves ≡ leaf_limit
      → ExceedsLimits (length (uses_at memory settings level first above (meaning settings level (Some value))))
      (length (leaves_at memory settings level first above (meaning settings level (Some value)))) old
  leaf-exceeds old full = inr (omega (arith, leaves-leaf))
