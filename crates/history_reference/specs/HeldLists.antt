-- Lists of what a processor holds for an address under a PCID, at each level.
use Rattle.std.specs.Prelude.{◌≡◌, ℕ, suc, ◌==◌, ◌&&◌, ◌⊎◌, ◌↔◌, not, false, Option, Some, None, option_map, List, if◌then◌else◌}
use Rattle.std.specs.List.{filter_map}
use Rattle.paging_model.specs.Counting.{IsIn}
use Rattle.paging_model.specs.Entries.{root_bits}
use Rattle.paging_model.specs.Registers.{root_of, settings_of}
use Rattle.paging_model.specs.Walking.{top_level}
use Rattle.paging_model.specs.declared.registers.Regs.{Regs}
use Rattle.history_model.specs.History.{History, begun, next, machine, memory, regs}
use Rattle.history_model.specs.Invalidations.{kills}
use Rattle.history_model.specs.CachedTranslations.{Held, MayHold, cache_key, fill_of}
use Rattle.history_reference.specs.CacheEntries.{HeldEntry, entry_of_level}

-- it was held before the last event, which doesn't remove it
abbrev pub IsStillHeld : History → ℕ → ℕ → ℕ → ℕ → Held → Type 0
IsStillHeld (begun start) p c level x held = ⊥
IsStillHeld (next before happened) p c level x held =
    (known : Regs) × (regs before p ≡ Some known) × MayHold before p c level x held
    × (kills happened p known (cache_key c level x held) ≡ false)

-- what a processor with these registers makes of an entry of a level: in the top table, where that is the level
abbrev pub made_at_root : History → Regs → ℕ → ℕ → Option HeldEntry
made_at_root history known level x =
    if level == top_level (settings_of known (machine history))
    then option_map (entry_of_level level) (fill_of (memory history) (machine history) known level x (root_of known (machine history)) root_bits)
    else None

-- and in the table that an entry of the level above references
abbrev pub made_below : History → Regs → ℕ → ℕ → HeldEntry → Option HeldEntry
made_below history known level x above =
    if above.level == suc level && not above.held.leaf
    then option_map (entry_of_level level) (fill_of (memory history) (machine history) known level x above.held.frame above.held.bits)
    else None

-- an entry is made of a level, where a list has what is held of the level above
abbrev pub IsMadeOver : History → Regs → ℕ → ℕ → List HeldEntry → HeldEntry → Type 0
IsMadeOver history known level x list entry =
    (made_at_root history known level x ≡ Some entry) ⊎ IsIn entry (filter_map (made_below history known level x) list)

-- the list has what was held before the last event and isn't removed by it
abbrev pub AreStillHeld : History → ℕ → ℕ → ℕ → List HeldEntry → Type 0
AreStillHeld history p c x list =
    (level : ℕ) (held : Held) → IsIn (entry_of_level level held) list ↔ IsStillHeld history p c level x held

-- the list has what may be held, and nothing else
abbrev pub AreHeld : History → ℕ → ℕ → ℕ → List HeldEntry → Type 0
AreHeld history p c x list =
    (level : ℕ) (held : Held) → IsIn (entry_of_level level held) list ↔ MayHold history p c level x held
