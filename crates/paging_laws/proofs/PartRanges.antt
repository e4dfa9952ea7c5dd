-- What is found at an entry lies in the entry's range, whatever memory holds.
use Rattle.std.proofs.Common.{ℕ, zero, suc, ◌+◌, ◌<◌, ◌≤◌, Option, Some, None, sym, subst, arith}
use Rattle.paging_model.specs.Counting.{IsIn, AreDistinct}
use Rattle.paging_model.specs.Memory.{Memory}
use Rattle.paging_model.specs.LinearAddress.{span}
use Rattle.paging_model.specs.Entries.{joined_bits}
use Rattle.paging_model.specs.declared.registers.Settings.{Settings}
use Rattle.paging_model.specs.declared.entries.Bits.{Bits}
use Rattle.paging_model.specs.declared.entries.Entry.{Entry}
use Rattle.paging_model.specs.declared.entries.Entry.TheVariants as entry
use Rattle.paging_laws.specs.SpaceParts.{SpacePart, a_table, a_page, slot_read, slot_prefix, found_at, found}
use Rattle.paging_laws.proofs.Membership.{distinct-flat_map}
use Rattle.paging_laws.proofs.SlotRanges.{span_suc, span_least, slot_ends, slot_starts}
use Rattle.paging_laws.proofs.Finding.{table_part, Place, of_table, of_lower, of_page, place_of, found_below, found_in_slot, in-found, none-found}

-- the first address that a part serves
abbrev pub first_of_part : SpacePart → ℕ
first_of_part (a_table one) = one.prefix
first_of_part (a_page leaf) = leaf.prefix

-- and how many bytes
abbrev pub length_of_part : SpacePart → ℕ
length_of_part (a_table one) = span (suc one.level)
length_of_part (a_page leaf) = span leaf.level

-- a table of a lower level, or a page of no higher one
abbrev pub IsLower : ℕ → SpacePart → Type 0
IsLower level (a_table one) = one.level < level
IsLower level (a_page leaf) = leaf.level ≤ level

pub record LiesIn (level low high : ℕ) (x : SpacePart) : Type 0 where
  pub from : low ≤ first_of_part x
  pub ends : first_of_part x + length_of_part x ≤ high
  pub lower : IsLower level x

part-length : (x : SpacePart) → 0 < length_of_part x
part-length (a_table one) = omega (arith, span_least (suc one.level))
part-length (a_page leaf) = omega (arith, span_least leaf.level)

pub first-before : {level low high : ℕ} (x : SpacePart) → LiesIn level low high x → first_of_part x < high
first-before x lies = omega (arith, part-length x, lies.ends)

lower-still : (level : ℕ) (x : SpacePart) → IsLower level x → IsLower (suc level) x
lower-still level (a_table one) lower = omega (arith, lower)
lower-still level (a_page leaf) lower = omega (arith, lower)

wider : (level low high low' high' : ℕ) (x : SpacePart) → low' ≤ low → high ≤ high' → LiesIn level low high x → LiesIn level low' high' x
wider level low high low' high' x down up lies =
    record { from = omega (arith, lies.from); ends = omega (arith, lies.ends); lower = lies.lower }

module _ (memory : Memory) (settings : Settings) where
  slot-lies : (lower first : ℕ) (above : Bits) (read : Option Entry) (x : SpacePart)
      → ((frame : ℕ) (bits : Bits) → IsIn x (found memory settings lower frame first bits 0 512)
      → LiesIn lower (slot_prefix lower first 0) (slot_prefix lower first (0 + 512)) x)
      → Place (found_below memory settings lower) lower first above read x
      → LiesIn (suc lower) first (first + span (suc lower)) x
  slot-lies lower first above read x deeper (of_table frame bits is_read is) =
      subst (λ (it : SpacePart). LiesIn (suc lower) first (first + span (suc lower)) it) (sym is)
      (record { from = omega arith; ends = omega arith; lower = omega arith })
  slot-lies zero first above read x deeper (of_lower frame bits is_read is) =
      absurd (none-found memory settings frame first (joined_bits above bits) 0 512 x is)
  slot-lies (suc lowest) first above read x deeper (of_lower frame bits is_read is) =
      let longer = span_suc (suc lowest) (omega arith) in
      let lies = deeper frame (joined_bits above bits) is in
      record {
        from = omega (arith, lies.from);
        ends = omega (arith, lies.ends);
        lower = lower-still (suc lowest) x lies.lower;
      }
  slot-lies lower first above read x deeper (of_page frame bits key global is_read is) =
      subst (λ (it : SpacePart). LiesIn (suc lower) first (first + span (suc lower)) it) (sym is)
      (record { from = omega arith; ends = omega arith; lower = omega arith })

  pub found-lies : (level table prefix : ℕ) (above : Bits) (from count : ℕ) (x : SpacePart)
      → IsIn x (found memory settings level table prefix above from count)
      → LiesIn level (slot_prefix level prefix from) (slot_prefix level prefix (from + count)) x
  found-lies zero table prefix above from count x is = absurd (none-found memory settings table prefix above from count x is)
  found-lies (suc lower) table prefix above from count x is =
      let it = in-found memory settings lower table prefix above from count x is in
      let first : ℕ = slot_prefix (suc lower) prefix it.number in
      wider (suc lower) (slot_prefix (suc lower) prefix it.number) (slot_prefix (suc lower) prefix it.number + span (suc lower))
      (slot_prefix (suc lower) prefix from) (slot_prefix (suc lower) prefix (from + count)) x
      (slot_starts (span (suc lower)) prefix from it.number it.least)
      (slot_ends (span (suc lower)) prefix it.number (from + count) it.less)
      (slot-lies lower (slot_prefix (suc lower) prefix it.number) above (slot_read memory settings (suc lower) table it.number) x
      (λ frame bits is_below. found-lies lower frame (slot_prefix (suc lower) prefix it.number) bits 0 512 x is_below)
      (place_of (found_below memory settings lower) lower (slot_prefix (suc lower) prefix it.number) above
      (slot_read memory settings (suc lower) table it.number) x it.is_in))

  -- the same of one entry
  pub in_slot-lies : (lower table prefix : ℕ) (above : Bits) (i : ℕ) (x : SpacePart)
      → IsIn x (found_in_slot memory settings lower table prefix above i)
      → LiesIn (suc lower) (slot_prefix (suc lower) prefix i) (slot_prefix (suc lower) prefix i + span (suc lower)) x
  in_slot-lies lower table prefix above i x is =
      slot-lies lower (slot_prefix (suc lower) prefix i) above (slot_read memory settings (suc lower) table i) x
      (λ frame bits is_below. found-lies lower frame (slot_prefix (suc lower) prefix i) bits 0 512 x is_below)
      (place_of (found_below memory settings lower) lower (slot_prefix (suc lower) prefix i) above
      (slot_read memory settings (suc lower) table i) x is)

  distinct-at : (lower first : ℕ) (above : Bits) (read : Option Entry)
      → ((frame : ℕ) (bits : Bits) → AreDistinct (found memory settings lower frame first bits 0 512))
      → AreDistinct (found_at (found_below memory settings lower) lower first above read)
  distinct-at lower first above None deeper = tt
  distinct-at lower first above (Some entry.Absent) deeper = tt
  distinct-at lower first above (Some entry.Reserved) deeper = tt
  distinct-at lower first above (Some (entry.Table frame bits)) deeper = (
    λ is.
        let lies = found-lies lower frame first (joined_bits above bits) 0 512 (table_part lower first frame (joined_bits above bits)) is in omega (arith, lies.lower),
    deeper frame (joined_bits above bits),
  )
  distinct-at lower first above (Some (entry.Leaf frame bits key global)) deeper = (λ never. never, tt)

  -- nothing is found twice
  pub found-distinct : (level table prefix : ℕ) (above : Bits) (from count : ℕ)
      → AreDistinct (found memory settings level table prefix above from count)
  unfolding found
  found-distinct zero table prefix above from count = tt
  found-distinct (suc lower) table prefix above from count =
      distinct-flat_map (found_in_slot memory settings lower table prefix above) from count
      (λ i least less. distinct-at lower (slot_prefix (suc lower) prefix i) above (slot_read memory settings (suc lower) table i)
      (λ frame bits. found-distinct lower frame (slot_prefix (suc lower) prefix i) bits 0 512))
      (λ i j x least less last one other.
      let first = in_slot-lies lower table prefix above i x one in
      let second = in_slot-lies lower table prefix above j x other in
      omega (arith, first-before x first, second.from, slot_ends (span (suc lower)) prefix i j less))
