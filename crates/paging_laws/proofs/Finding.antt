-- What is found at entries of a table, entry by entry.
use Rattle.std.proofs.Common.{◌≡◌, ℕ, zero, suc, ◌+◌, ◌<◌, ◌≤◌, inl, inr, Bool, Option, Some, None, List, [], ◌∷◌, ◌++◌, refl, sym, ap, ◌∙◌, subst, arith, append-nil}
use Rattle.std.specs.Prelude.{flat_map}
use Rattle.std.specs.List.{range_with_len}
use Rattle.std.proofs.lemmas.Grind.{flat_map-append}
use Rattle.paging_model.specs.Counting.{IsIn}
use Rattle.paging_model.specs.Memory.{Memory}
use Rattle.paging_model.specs.Entries.{joined_bits}
use Rattle.paging_model.specs.declared.registers.Settings.{Settings}
use Rattle.paging_model.specs.declared.entries.Bits.{Bits}
use Rattle.paging_model.specs.declared.entries.Entry.{Entry}
use Rattle.paging_model.specs.declared.entries.Entry.TheVariants as entry
use Rattle.paging_laws.specs.SpaceParts.{SpacePart, a_table, a_page, slot_read, slot_prefix, found_at, found}
use Rattle.paging_laws.proofs.Membership.{InOne, in-flat_map, flat_map-in}

abbrev pub table_part : ℕ → ℕ → ℕ → Bits → SpacePart
table_part level prefix frame bits = a_table (record { level = level; prefix = prefix; frame = frame; bits = bits })

abbrev pub page_part : ℕ → ℕ → SpacePart
page_part level prefix = a_page (record { level = level; prefix = prefix })

-- how a part is found at an entry: it is the table or the page of the entry, or is found below the table
pub data Place (under : ℕ → ℕ → Bits → List SpacePart) (lower first : ℕ) (above : Bits) (read : Option Entry) (x : SpacePart) : Type 0 where
  of_table : (frame : ℕ) (bits : Bits) → read ≡ Some (entry.Table frame bits)
      → x ≡ table_part lower first frame (joined_bits above bits) → Place under lower first above read x
  of_lower : (frame : ℕ) (bits : Bits) → read ≡ Some (entry.Table frame bits)
      → IsIn x (under frame first (joined_bits above bits)) → Place under lower first above read x
  of_page : (frame : ℕ) (bits : Bits) (key : ℕ) (global : Bool) → read ≡ Some (entry.Leaf frame bits key global)
      → x ≡ page_part (suc lower) first → Place under lower first above read x

pub place_of : (under : ℕ → ℕ → Bits → List SpacePart) (lower first : ℕ) (above : Bits) (read : Option Entry) (x : SpacePart)
    → IsIn x (found_at under lower first above read) → Place under lower first above read x
place_of under lower first above None x is = absurd is
place_of under lower first above (Some entry.Absent) x is = absurd is
place_of under lower first above (Some entry.Reserved) x is = absurd is
place_of under lower first above (Some (entry.Table frame bits)) x (inl same) = of_table frame bits refl same
place_of under lower first above (Some (entry.Table frame bits)) x (inr is) = of_lower frame bits refl is
place_of under lower first above (Some (entry.Leaf frame bits key global)) x (inl same) = of_page frame bits key global refl same
place_of under lower first above (Some (entry.Leaf frame bits key global)) x (inr never) = absurd never

module _ (memory : Memory) (settings : Settings) where
  -- what is found at all entries of a table
  abbrev pub found_below : ℕ → ℕ → ℕ → Bits → List SpacePart
  found_below lower frame first bits = found memory settings lower frame first bits 0 512

  -- what is found at entry i
  abbrev pub found_in_slot : ℕ → ℕ → ℕ → Bits → ℕ → List SpacePart
  found_in_slot lower table prefix above i =
      found_at (found_below lower) lower (slot_prefix (suc lower) prefix i) above (slot_read memory settings (suc lower) table i)

  pub found-none : (level table prefix : ℕ) (above : Bits) (from : ℕ) → found memory settings level table prefix above from 0 ≡ []
  unfolding found
  found-none zero table prefix above from = refl
  found-none (suc lower) table prefix above from = refl

  pub found-one : (lower table prefix : ℕ) (above : Bits) (i : ℕ)
      → found memory settings (suc lower) table prefix above i 1 ≡ found_in_slot lower table prefix above i
  unfolding found
  found-one lower table prefix above i = append-nil (found_in_slot lower table prefix above i)

  range-append : (from count more : ℕ) → range_with_len from (count + more) ≡ range_with_len from count ++ range_with_len (from + count) more
  range-append from zero more = let same : from + 0 ≡ from = omega arith in let none : 0 + more ≡ more = omega arith in rw (same, none) refl
  range-append from (suc n) more =
      let next : suc n + more ≡ suc (n + more) = omega arith in
      let on : from + suc n ≡ from + 1 + n = omega arith in
      rw (next, on) (ap (λ (rest : List ℕ). from ∷ rest) (range-append (from + 1) n more))

  -- what is found at some entries, and then at the next ones
  pub found-append : (level table prefix : ℕ) (above : Bits) (from count more : ℕ)
      → found memory settings level table prefix above from (count + more)
      ≡ found memory settings level table prefix above from count ++ found memory settings level table prefix above (from + count) more
  unfolding found
  found-append zero table prefix above from count more = refl
  found-append (suc lower) table prefix above from count more =
      ap (flat_map (found_in_slot lower table prefix above)) (range-append from count more)
      ∙ flat_map-append (found_in_slot lower table prefix above) (range_with_len from count) (range_with_len (from + count) more)

  pub none-found : (table prefix : ℕ) (above : Bits) (from count : ℕ) (x : SpacePart)
      → IsIn x (found memory settings zero table prefix above from count) → ⊥
  unfolding found
  none-found table prefix above from count x is = is

  pub in-found : (lower table prefix : ℕ) (above : Bits) (from count : ℕ) (x : SpacePart)
      → IsIn x (found memory settings (suc lower) table prefix above from count) → InOne (found_in_slot lower table prefix above) from count x
  unfolding found
  in-found lower table prefix above from count x is = in-flat_map (found_in_slot lower table prefix above) from count x is

  pub found-in : (lower table prefix : ℕ) (above : Bits) (from count i : ℕ) (x : SpacePart) → from ≤ i → i < from + count
      → IsIn x (found_in_slot lower table prefix above i) → IsIn x (found memory settings (suc lower) table prefix above from count)
  unfolding found
  found-in lower table prefix above from count i x least less is =
      flat_map-in (found_in_slot lower table prefix above) from count i x least less is

  -- the table of an entry, and what is found below it
  pub below-found : (lower table prefix : ℕ) (above : Bits) (from count i frame : ℕ) (bits : Bits) (x : SpacePart)
      → from ≤ i → i < from + count
      → slot_read memory settings (suc lower) table i ≡ Some (entry.Table frame bits)
      → IsIn x (table_part lower (slot_prefix (suc lower) prefix i) frame (joined_bits above bits)
      ∷ found_below lower frame (slot_prefix (suc lower) prefix i) (joined_bits above bits))
      → IsIn x (found memory settings (suc lower) table prefix above from count)
  below-found lower table prefix above from count i frame bits x least less read is =
      found-in lower table prefix above from count i x least less
      (subst (λ (it : Option Entry). IsIn x (found_at (found_below lower) lower (slot_prefix (suc lower) prefix i) above it)) (sym read) is)

  -- the page of an entry
  pub page-found : (lower table prefix : ℕ) (above : Bits) (from count i frame : ℕ) (bits : Bits) (key : ℕ) (global : Bool)
      → from ≤ i → i < from + count
      → slot_read memory settings (suc lower) table i ≡ Some (entry.Leaf frame bits key global)
      → IsIn (page_part (suc lower) (slot_prefix (suc lower) prefix i)) (found memory settings (suc lower) table prefix above from count)
  page-found lower table prefix above from count i frame bits key global least less read =
      found-in lower table prefix above from count i (page_part (suc lower) (slot_prefix (suc lower) prefix i)) least less
      (subst (λ (it : Option Entry). IsIn (page_part (suc lower) (slot_prefix (suc lower) prefix i))
      (found_at (found_below lower) lower (slot_prefix (suc lower) prefix i) above it)) (sym read) (inl refl))
