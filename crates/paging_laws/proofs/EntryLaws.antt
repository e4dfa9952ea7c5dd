-- The uses and pages that entries of a table give, one entry after another.
use Rattle.std.proofs.Common.{◌≡◌, ℕ, zero, suc, ◌+◌, ◌-◌, ◌≤◌, Option, Some, None, List, [], ◌∷◌, ◌++◌, refl, ap, ◌∙◌, subst, arith}
use Rattle.std.specs.Prelude.{filter_map}
use Rattle.std.proofs.lemmas.List.Elements.{filter_map-append}
use Rattle.paging_model.specs.Counting.{IsIn, AreDistinct}
use Rattle.paging_model.specs.Memory.{Memory}
use Rattle.paging_model.specs.LinearAddress.{span}
use Rattle.paging_model.specs.Entries.{joined_bits}
use Rattle.paging_model.specs.TableUses.{Leaf}
use Rattle.paging_model.specs.declared.registers.Settings.{Settings}
use Rattle.paging_model.specs.declared.entries.Bits.{Bits}
use Rattle.paging_model.specs.declared.entries.Entry.{Entry}
use Rattle.paging_model.specs.declared.entries.Entry.TheVariants as entry
use Rattle.paging_model.specs.declared.spaces.TableUse.{TableUse}
use Rattle.paging_laws.specs.EntryParts.{uses_at, leaves_at, TableLiesIn, PageLiesIn}
use Rattle.paging_laws.specs.SpaceParts.{a_table, a_page, slot_read, slot_prefix, found_at, found, use_of_part, leaf_of_part, uses_in, leaves_in}
use Rattle.paging_laws.proofs.Finding.{found_below, found-none, found-one, found-append}
use Rattle.paging_laws.proofs.PartLists.{in-tables, in-pages, distinct-tables, distinct-pages}
use Rattle.paging_laws.proofs.PartRanges.{first-before, found-lies, found-distinct}

module _ (memory : Memory) (settings : Settings) where
  pub uses_in-none : (level table prefix : ℕ) (above : Bits) (from : ℕ) → uses_in memory settings level table prefix above from 0 ≡ []
  unfolding uses_in
  uses_in-none level table prefix above from = ap (filter_map use_of_part) (found-none memory settings level table prefix above from)

  pub leaves_in-none : (level table prefix : ℕ) (above : Bits) (from : ℕ) → leaves_in memory settings level table prefix above from 0 ≡ []
  unfolding leaves_in
  leaves_in-none level table prefix above from = ap (filter_map leaf_of_part) (found-none memory settings level table prefix above from)

  pub uses_in-append : (level table prefix : ℕ) (above : Bits) (from count more : ℕ)
      → uses_in memory settings level table prefix above from (count + more)
      ≡ uses_in memory settings level table prefix above from count ++ uses_in memory settings level table prefix above (from + count) more
  unfolding uses_in
  uses_in-append level table prefix above from count more =
      ap (filter_map use_of_part) (found-append memory settings level table prefix above from count more)
      ∙ filter_map-append use_of_part (found memory settings level table prefix above from count)
      (found memory settings level table prefix above (from + count) more)

  pub leaves_in-append : (level table prefix : ℕ) (above : Bits) (from count more : ℕ)
      → leaves_in memory settings level table prefix above from (count + more)
      ≡ leaves_in memory settings level table prefix above from count ++ leaves_in memory settings level table prefix above (from + count) more
  unfolding leaves_in
  leaves_in-append level table prefix above from count more =
      ap (filter_map leaf_of_part) (found-append memory settings level table prefix above from count more)
      ∙ filter_map-append leaf_of_part (found memory settings level table prefix above from count)
      (found memory settings level table prefix above (from + count) more)

  -- at one entry
  abbrev uses_below : ℕ → ℕ → ℕ → Bits → List TableUse
  uses_below level frame first bits =
      record { level = level; prefix = first; frame = frame; bits = bits }
      ∷ filter_map use_of_part (found memory settings level frame first bits 0 512)

  uses-at : (lower first : ℕ) (above : Bits) (read : Option Entry)
      → filter_map use_of_part (found_at (found_below memory settings lower) lower first above read)
      ≡ uses_at memory settings (suc lower) first above read
  unfolding uses_in
  uses-at lower first above None = refl
  uses-at lower first above (Some entry.Absent) = refl
  uses-at lower first above (Some entry.Reserved) = refl
  uses-at lower first above (Some (entry.Table frame bits)) =
      let lower_is : lower ≡ suc lower - 1 = omega arith in
      ap (λ (n : ℕ). uses_below n frame first (joined_bits above bits)) lower_is
  uses-at lower first above (Some (entry.Leaf frame bits key global)) = refl

  leaves-at : (lower first : ℕ) (above : Bits) (read : Option Entry)
      → filter_map leaf_of_part (found_at (found_below memory settings lower) lower first above read)
      ≡ leaves_at memory settings (suc lower) first above read
  unfolding leaves_in
  leaves-at lower first above None = refl
  leaves-at lower first above (Some entry.Absent) = refl
  leaves-at lower first above (Some entry.Reserved) = refl
  leaves-at lower first above (Some (entry.Table frame bits)) =
      let lower_is : lower ≡ suc lower - 1 = omega arith in
      ap (λ (n : ℕ). filter_map leaf_of_part (found memory settings n frame first (joined_bits above bits) 0 512)) lower_is
  leaves-at lower first above (Some (entry.Leaf frame bits key global)) = refl

  pub uses_in-one : (level table prefix : ℕ) (above : Bits) (i : ℕ) → 1 ≤ level
      → uses_in memory settings level table prefix above i 1
      ≡ uses_at memory settings level (slot_prefix level prefix i) above (slot_read memory settings level table i)
  unfolding uses_in
  uses_in-one zero table prefix above i some = absurd (omega arith)
  uses_in-one (suc lower) table prefix above i some =
      ap (filter_map use_of_part) (found-one memory settings lower table prefix above i)
      ∙ uses-at lower (slot_prefix (suc lower) prefix i) above (slot_read memory settings (suc lower) table i)

  pub leaves_in-one : (level table prefix : ℕ) (above : Bits) (i : ℕ) → 1 ≤ level
      → leaves_in memory settings level table prefix above i 1
      ≡ leaves_at memory settings level (slot_prefix level prefix i) above (slot_read memory settings level table i)
  unfolding leaves_in
  leaves_in-one zero table prefix above i some = absurd (omega arith)
  leaves_in-one (suc lower) table prefix above i some =
      ap (filter_map leaf_of_part) (found-one memory settings lower table prefix above i)
      ∙ leaves-at lower (slot_prefix (suc lower) prefix i) above (slot_read memory settings (suc lower) table i)

  -- where they lie
  pub uses_in-range : (level table prefix : ℕ) (above : Bits) (from count : ℕ) (one : TableUse)
      → IsIn one (uses_in memory settings level table prefix above from count)
      → TableLiesIn level (slot_prefix level prefix from) (slot_prefix level prefix (from + count)) one
  unfolding uses_in
  uses_in-range level table prefix above from count one is =
      let lies = found-lies memory settings level table prefix above from count (a_table one)
      (in-tables (found memory settings level table prefix above from count) one is) in
      let next : suc one.level ≡ one.level + 1 = omega arith in
      record {
        lower = lies.lower;
        from = lies.from;
        before = first-before (a_table one) lies;
        ends = subst (λ (n : ℕ). one.prefix + span n ≤ slot_prefix level prefix (from + count)) next lies.ends;
      }

  pub leaves_in-range : (level table prefix : ℕ) (above : Bits) (from count : ℕ) (one : Leaf)
      → IsIn one (leaves_in memory settings level table prefix above from count)
      → PageLiesIn level (slot_prefix level prefix from) (slot_prefix level prefix (from + count)) one
  unfolding leaves_in
  leaves_in-range level table prefix above from count one is =
      let lies = found-lies memory settings level table prefix above from count (a_page one)
      (in-pages (found memory settings level table prefix above from count) one is) in
      record { lower = lies.lower; from = lies.from; before = first-before (a_page one) lies; ends = lies.ends }

  pub uses_in-distinct : (level table prefix : ℕ) (above : Bits) (from count : ℕ)
      → AreDistinct (uses_in memory settings level table prefix above from count)
  unfolding uses_in
  uses_in-distinct level table prefix above from count =
      distinct-tables (found memory settings level table prefix above from count) (found-distinct memory settings level table prefix above from count)

  pub leaves_in-distinct : (level table prefix : ℕ) (above : Bits) (from count : ℕ)
      → AreDistinct (leaves_in memory settings level table prefix above from count)
  unfolding leaves_in
  leaves_in-distinct level table prefix above from count =
      distinct-pages (found memory settings level table prefix above from count) (found-distinct memory settings level table prefix above from count)
