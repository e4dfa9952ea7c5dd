-- The levels of what is held.
use Rattle.std.proofs.Common.{◌≡◌, ℕ, suc, ◌≤◌, ◌&&◌, Bool, true, false, Option, Some, None, refl, sym, ap, ◌∙◌, arith}
use Rattle.std.proofs.lemmas.Bool.Decides.{nat_tests}
use Rattle.std.specs.Prelude.{◌==◌, ◌||◌, not, if◌then◌else◌, option_map, option_and_then}
use Rattle.paging_model.specs.Memory.{Memory, entry_at}
use Rattle.paging_model.specs.Registers.{la57, pge, settings_of}
use Rattle.paging_model.specs.Entries.{entry_of, is_leaf, is_present, is_reserved, page_size, is_global, bits_of, page_frame, table_frame, protection_key}
use Rattle.paging_model.specs.Walking.{entry_address}
use Rattle.paging_model.specs.declared.entries.Bits.{Bits}
use Rattle.paging_model.specs.declared.entries.Entry.TheVariants as entry
use Rattle.paging_model.specs.declared.registers.Machine.{Machine}
use Rattle.paging_model.specs.declared.registers.Regs.{Regs}
use Rattle.paging_model.specs.declared.registers.Settings.{Settings}
use Rattle.history_model.specs.History.{History}
use Rattle.history_model.specs.Horizons.{here, later}
use Rattle.history_model.specs.CachedTranslations.{Held, MayHold, kept, at_root, below, fill_of, held_of}
use Rattle.history_laws.specs.HeldLevels.{HasLevel, HasLevels, levels_of}

-- an entry that was read, and what is held of it
pub record IsReadAs (pages_are_global : Bool) (above : Bits) (settings : Settings) (level : ℕ) (value : Option ℕ) (held : Held) : Type 0 where
  pub number : ℕ
  pub was_read : value ≡ Some number
  pub is_held : held_of pages_are_global above (entry_of level settings number) ≡ Some held

no_entry : (pages_are_global : Bool) (above : Bits) (settings : Settings) (level : ℕ) (held : Held) (value : Option ℕ)
    → option_and_then (λ read. held_of pages_are_global above read) (option_map (λ number. entry_of level settings number) value) ≡ Some held
    → IsReadAs pages_are_global above settings level value held
no_entry pages_are_global above settings level held None h = absurd (cc)
no_entry pages_are_global above settings level held (Some number) h = record { number = number; was_read = refl; is_held = h }

-- what is held of an entry was read in memory
pub read_of : (memory : Memory) (machine : Machine) (known : Regs) (x level table : ℕ) (above : Bits) (held : Held) → fill_of memory machine known level x table above ≡ Some held
    → IsReadAs (pge known) above (settings_of known machine) level (entry_at memory (entry_address level x table)) held
unfolding fill_of
read_of memory machine known x level table above held h = no_entry (pge known) above (settings_of known machine) level held (entry_at memory (entry_address level x table)) h

abbrev leaf_in : Option Held → Bool
leaf_in None = false
leaf_in (Some held) = held.leaf

form_of_tests : (present reserved leaf pages_are_global global : Bool) (above bits : Bits) (page table key : ℕ) (held : Held)
    → held_of pages_are_global above (if not present then entry.Absent else (if reserved then entry.Reserved else (if leaf then entry.Leaf page bits key global else entry.Table table bits))) ≡ Some held
    → held.leaf ≡ leaf
form_of_tests false reserved leaf pages_are_global global above bits page table key held h = absurd (cc)
form_of_tests true true leaf pages_are_global global above bits page table key held h = absurd (cc)
form_of_tests true false true pages_are_global global above bits page table key held h = ap leaf_in (sym h)
form_of_tests true false false pages_are_global global above bits page table key held h = ap leaf_in (sym h)

-- what is held of an entry maps a page where the entry does
form_of : (pages_are_global : Bool) (above : Bits) (settings : Settings) (level number : ℕ) (held : Held) → held_of pages_are_global above (entry_of level settings number) ≡ Some held → held.leaf ≡ is_leaf level number
unfolding entry_of
form_of pages_are_global above settings level number held h =
    form_of_tests (is_present number) (is_reserved level settings number) (is_leaf level number) pages_are_global (is_global number) above (bits_of number) (page_frame level number) (table_frame number) (protection_key number) held h

leaf_below : (level : ℕ) (large : Bool) → (level == 1 || ((level == 2 || level == 3) && large)) ≡ true → level ≤ 3
leaf_below level true h = grind (arith, nat_tests)
leaf_below level false h = grind (arith, nat_tests)

table_above : (level : ℕ) (large : Bool) → 1 ≤ level → (level == 1 || ((level == 2 || level == 3) && large)) ≡ false → 2 ≤ level
table_above level true least h = grind (arith, nat_tests)
table_above level false least h = grind (arith, nat_tests)

level_of_made : (memory : Memory) (machine : Machine) (known : Regs) (x level table : ℕ) (above : Bits) (held : Held) → 1 ≤ level → level ≤ 5
    → fill_of memory machine known level x table above ≡ Some held → HasLevel level held
level_of_made memory machine known x level table above held least most is_made =
    let read = read_of memory machine known x level table above held is_made in
    let form : held.leaf ≡ is_leaf level read.number = form_of (pge known) above (settings_of known machine) level read.number held read.is_held in
    record {
      least = least;
      most = most;
      of_page = λ h. leaf_below level (page_size read.number) (sym form ∙ h);
      of_table = λ h. table_above level (page_size read.number) least (sym form ∙ h);
    }

-- there are 4 or 5 levels
pub levels_within : (five_levels : Bool) → (4 ≤ levels_of five_levels) × (levels_of five_levels ≤ 5)
levels_within true = (omega arith, omega arith)
levels_within false = (omega arith, omega arith)

pub held_has_level : {p c x : ℕ} {history : History} {level : ℕ} {held : Held} → MayHold history p c level x held → HasLevel level held
held_has_level (kept happened earlier is_known spares) = held_has_level earlier
held_has_level (at_root {known = known} is_known current top is_made) =
    let within = levels_within (la57 known) in level_of_made _ _ _ _ _ _ _ _ (omega (arith, top, within.0)) (omega (arith, top, within.1)) is_made
held_has_level (below {level = level} above is_known current above_held references is_made) =
    let over : HasLevel (suc level) above = held_has_level above_held in
    let two : 2 ≤ suc level = over.of_table references in
    level_of_made _ _ _ _ _ _ _ _ (omega arith) (omega (arith, over.most)) is_made

-- no level above the top level where that stays the same
pub held_below_top : {p c x : ℕ} {history : History} {level : ℕ} {held : Held} (five_levels : Bool) → HasLevels history p five_levels
    → MayHold history p c level x held → level ≤ levels_of five_levels
held_below_top five_levels same (kept happened earlier is_known spares) =
    held_below_top five_levels (λ moment known up_to. same moment known (later happened up_to)) earlier
held_below_top five_levels same (at_root {history = history} {known = known} is_known current top is_made) =
    let e : levels_of (la57 known) ≡ levels_of five_levels = ap levels_of (same history known here is_known) in
    omega (arith, top, e)
held_below_top five_levels same (below {level = level} above is_known current above_held references is_made) =
    let over : suc level ≤ levels_of five_levels = held_below_top five_levels same above_held in
    omega (arith, over)
