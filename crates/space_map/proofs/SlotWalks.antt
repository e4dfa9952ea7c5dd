-- The walk of some entries of a table, one after another.
use Rattle.std.proofs.Common.{◌≡◌, ℕ, ◌+◌, ◌-◌, ◌*◌, ◌%◌, ◌<◌, ◌≤◌, inl, inr, length, refl, arith, sym, ap, ◌∙◌, subst, Option, length-append}
use Rattle.std.proofs.Math.Nat.{mul-le-mul_right}
use Rattle.paging_model.specs.Memory.{Memory, entry_at}
use Rattle.paging_model.specs.LinearAddress.{span}
use Rattle.paging_model.specs.Translations.{raw_target_of}
use Rattle.paging_model.specs.Walking.{walk_from, at_value, entry_address}
use Rattle.paging_model.specs.declared.registers.Settings.{Settings}
use Rattle.paging_model.specs.declared.spaces.TableUse.{TableUse}
use Rattle.paging_model.proofs.WalkSteps.{walk_from-step}
use Rattle.paging_laws.specs.EntryParts.{uses_at, leaves_at}
use Rattle.paging_laws.specs.SpaceParts.{slot_read}
use Rattle.paging_laws.proofs.EntryLaws.{uses_in-none, leaves_in-none, uses_in-append, leaves_in-append, uses_in-one, leaves_in-one}
use Rattle.paging_laws.proofs.SlotRanges.{slot_of}
use Rattle.phys_view.specs.Seen.{Seen, memory_of}
use Rattle.phys_view.specs.Ranges.{SeenEntries}
use Rattle.region_map.specs.Coalesced.{target_at}
use Rattle.space_map.specs.MappedRanges.{IsClear}
use Rattle.space_map.specs.PartialSpaces.{HasRange, ExceedsLimits}
use Rattle.space_map.specs.Walks.{slot_first, uses_from, leaves_from, target_from, meaning, target_by}
use Rattle.space_map.specs.declared.partial.PartialSpace.{PartialSpace}
use Rattle.space_map.proofs.MappedRanges.{mapped-none, mapped-same, mapped-both, clear-after, clear-moved}

-- an entry among those that a view gave
pub read-entry : (seen : Seen) (entries : SeenEntries) (at count k : ℕ) (value : Option ℕ) → entries ≡ record { seen = seen; at = at; count = count }
    → value ≡ entry_at (memory_of entries.seen) (entries.at + 8 * k) → value ≡ entry_at (memory_of seen) (at + 8 * k)
read-entry seen entries at count k value are read = read ∙ ap (λ (it : SeenEntries). entry_at (memory_of it.seen) (it.at + 8 * k)) are

module _ (memory : Memory) (settings : Settings) (table : TableUse) where
  abbrev uses : ℕ → ℕ → ℕ
  uses from count = length (uses_from memory settings table from count)

  abbrev leaves : ℕ → ℕ → ℕ
  leaves from count = length (leaves_from memory settings table from count)

  -- so many entries are walked
  abbrev pub Walked : ℕ → ℕ → PartialSpace → PartialSpace → Type 0
  Walked from count old new =
      HasRange (slot_first table from) (slot_first table (from + count)) (target_from memory settings table.level table.frame table.bits)
      (length (uses_from memory settings table from count)) (length (leaves_from memory settings table from count)) old new

  pub walked-none : (from : ℕ) (old : PartialSpace) → Walked from 0 old old
  walked-none from old =
      let no_uses : uses from 0 ≡ 0 = ap length (uses_in-none memory settings table.level table.frame table.prefix table.bits from) in
      let no_leaves : leaves from 0 ≡ 0 = ap length (leaves_in-none memory settings table.level table.frame table.prefix table.bits from) in
      record {
        mapped = mapped-none _ _ _ _ (omega arith);
        uses = omega arith;
        leaves = omega arith;
      }

  uses-more : (from count more : ℕ) → uses from (count + more) ≡ uses from count + uses (from + count) more
  uses-more from count more =
      ap length (uses_in-append memory settings table.level table.frame table.prefix table.bits from count more)
      ∙ length-append (uses_from memory settings table from count) (uses_from memory settings table (from + count) more)

  leaves-more : (from count more : ℕ) → leaves from (count + more) ≡ leaves from count + leaves (from + count) more
  leaves-more from count more =
      ap length (leaves_in-append memory settings table.level table.frame table.prefix table.bits from count more)
      ∙ length-append (leaves_from memory settings table from count) (leaves_from memory settings table (from + count) more)

  -- all entries have no fewer than the first ones and the next one
  uses-all : (from count all : ℕ) → count < all → uses from count + uses (from + count) 1 ≤ uses from all
  uses-all from count all less =
      let whole : count + 1 + (all - (count + 1)) ≡ all = omega arith in
      let more : uses from all ≡ uses from (count + 1) + uses (from + (count + 1)) (all - (count + 1)) =
      ap (λ (n : ℕ). uses from n) (sym whole) ∙ uses-more from (count + 1) (all - (count + 1)) in
      omega (arith, uses-more from count 1)

  leaves-all : (from count all : ℕ) → count < all → leaves from count + leaves (from + count) 1 ≤ leaves from all
  leaves-all from count all less =
      let whole : count + 1 + (all - (count + 1)) ≡ all = omega arith in
      let more : leaves from all ≡ leaves from (count + 1) + leaves (from + (count + 1)) (all - (count + 1)) =
      ap (λ (n : ℕ). leaves from n) (sym whole) ∙ leaves-more from (count + 1) (all - (count + 1)) in
      omega (arith, leaves-more from count 1)

  pub walked-next : (from count : ℕ) (old between new : PartialSpace) → Walked from count old between → Walked (from + count) 1 between new
      → Walked from (count + 1) old new
  walked-next from count old between new before next = record {
    mapped =
        mapped-both (slot_first table from) (slot_first table (from + count)) (slot_first table (from + (count + 1))) _ _ _ _
        (omega arith) (omega arith) before.mapped
        (mapped-same _ (slot_first table (from + count + 1)) _ (slot_first table (from + (count + 1))) _ _ _ _ refl (omega arith) next.mapped (λ page is least less. refl));
    uses = omega (arith, before.uses, next.uses, uses-more from count 1);
    leaves = omega (arith, before.leaves, next.leaves, leaves-more from count 1);
  }

  -- the range of the next entry is clear
  pub clear-next : (level from count all first : ℕ) (old between : PartialSpace) → level ≡ table.level → count < all
      → first ≡ table.prefix + (from + count) * span level → Walked from count old between
      → IsClear (slot_first table from) (slot_first table (from + all)) (target_at old.regions)
      → IsClear first (first + span level) (target_at between.regions)
  clear-next level from count all first old between is_level less is before clear =
      let same : span level ≡ span table.level = ap span is_level in
      let at : first ≡ slot_first table (from + count) = is ∙ ap (λ (w : ℕ). table.prefix + (from + count) * w) same in
      let ends : (from + count + 1) * span table.level ≤ (from + all) * span table.level =
      mul-le-mul_right (span table.level) (let next : from + count + 1 ≤ from + all = omega arith in next) in
      clear-moved at (omega (arith, same, at))
      (clear-after (slot_first table from) (slot_first table (from + count)) (slot_first table (from + count) + span table.level) (slot_first table (from + all)) _ _ _
      (omega arith) (omega arith) before.mapped clear)

  -- too many at the next entry are too many at all of them
  pub exceeds-next : (from count all : ℕ) (old between : PartialSpace) → count < all → Walked from count old between
      → ExceedsLimits (length (uses_from memory settings table (from + count) 1)) (length (leaves_from memory settings table (from + count) 1)) between
      → ExceedsLimits (length (uses_from memory settings table from all)) (length (leaves_from memory settings table from all)) old
  exceeds-next from count all old between less before (inl over) = inl (omega (arith, before.uses, uses-all from count all less))
  exceeds-next from count all old between less before (inr over) = inr (omega (arith, before.leaves, leaves-all from count all less))

  -- no more tables are counted at the next entry than it has, whatever comes of it
  pub few-next : (from count all : ℕ) (old between new : PartialSpace) → count < all → Walked from count old between
      → new.uses ≤ between.uses + length (uses_from memory settings table (from + count) 1)
      → new.uses ≤ old.uses + length (uses_from memory settings table from all)
  few-next from count all old between new less before few = omega (arith, before.uses, uses-all from count all less)

  -- an entry of a level by its value, and where its range begins
  module _ (level i : ℕ) (value : Option ℕ) (first : ℕ) (is_level : level ≡ table.level) (least : 1 ≤ table.level)
      (begins : table.prefix % (512 * span table.level) ≡ 0) (within : i < 512)
      (place : ℕ) (read : value ≡ entry_at memory place) (placed : place ≡ table.frame + 8 * i) (is : first ≡ table.prefix + i * span level) where
    -- its range is walked
    abbrev EntryWalked : ℕ → PartialSpace → PartialSpace → Type 0
    EntryWalked n old new =
        HasRange first (first + span n) (target_by memory settings n table.bits value)
        (length (uses_at memory settings n first table.bits (meaning settings n value)))
        (length (leaves_at memory settings n first table.bits (meaning settings n value))) old new

    read-slot : value ≡ entry_at memory (table.frame + 8 * i)
    read-slot = read ∙ ap (entry_at memory) placed

    first-slot : first ≡ slot_first table i
    first-slot = is ∙ ap (λ (n : ℕ). table.prefix + i * span n) is_level

    target-slot : (page : ℕ) → slot_first table i ≤ page → page < slot_first table (i + 1)
        → target_from memory settings table.level table.frame table.bits page ≡ target_by memory settings table.level table.bits value page
    target-slot page low high =
        let at = slot_of (span table.level) table.prefix i page begins within low (omega (arith, high)) in
        let here : entry_address table.level page table.frame ≡ table.frame + 8 * i = ap (λ (n : ℕ). table.frame + 8 * n) at in
        ap raw_target_of
        (walk_from-step memory settings page table.level table.frame table.bits least
        ∙ ap (at_value (λ frame bits. walk_from memory settings (table.level - 1) page frame bits) settings table.level page table.bits)
        (ap (entry_at memory) here ∙ sym read-slot))

    uses-slot : uses i 1 ≡ length (uses_at memory settings level first table.bits (meaning settings level value))
    uses-slot =
        ap length
        (uses_in-one memory settings table.level table.frame table.prefix table.bits i least
        ∙ (ap (λ (at : ℕ). uses_at memory settings table.level at table.bits (slot_read memory settings table.level table.frame i)) (sym first-slot)
        ∙ (ap (λ (it : Option ℕ). uses_at memory settings table.level first table.bits (meaning settings table.level it)) (sym read-slot)
        ∙ ap (λ (n : ℕ). uses_at memory settings n first table.bits (meaning settings n value)) (sym is_level))))

    leaves-slot : leaves i 1 ≡ length (leaves_at memory settings level first table.bits (meaning settings level value))
    leaves-slot =
        ap length
        (leaves_in-one memory settings table.level table.frame table.prefix table.bits i least
        ∙ (ap (λ (at : ℕ). leaves_at memory settings table.level at table.bits (slot_read memory settings table.level table.frame i)) (sym first-slot)
        ∙ (ap (λ (it : Option ℕ). leaves_at memory settings table.level first table.bits (meaning settings table.level it)) (sym read-slot)
        ∙ ap (λ (n : ℕ). leaves_at memory settings n first table.bits (meaning settings n value)) (sym is_level))))

    pub entry-walked : (old new : PartialSpace) → EntryWalked level old new → Walked i 1 old new
    entry-walked old new walked =
        let here : EntryWalked table.level old new = subst (λ (n : ℕ). EntryWalked n old new) is_level walked in
        record {
          mapped =
              mapped-same first (first + span table.level) (slot_first table i) (slot_first table (i + 1)) _ _ _ _
              first-slot (omega (arith, first-slot)) here.mapped (λ page is_page low high. target-slot page low high);
          uses = omega (arith, walked.uses, uses-slot);
          leaves = omega (arith, walked.leaves, leaves-slot);
        }

    pub entry-few : (old new : PartialSpace)
        → new.uses ≤ old.uses + length (uses_at memory settings level first table.bits (meaning settings level value))
        → new.uses ≤ old.uses + length (uses_from memory settings table i 1)
    entry-few old new few = omega (arith, uses-slot)

    pub entry-exceeds : (old : PartialSpace)
        → ExceedsLimits (length (uses_at memory settings level first table.bits (meaning settings level value)))
        (length (leaves_at memory settings level first table.bits (meaning settings level value))) old
        → ExceedsLimits (length (uses_from memory settings table i 1)) (length (leaves_from memory settings table i 1)) old
    entry-exceeds old (inl over) = inl (omega (arith, uses-slot))
    entry-exceeds old (inr over) = inr (omega (arith, leaves-slot))
