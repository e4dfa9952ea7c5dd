-- How many steps an event may take where all that it concerns is counted: all uses of a space, all entries that are written,
-- all tables. A bound goes by at least so many of them, and so reaches these numbers. (Our own, of no manual.)
use Rattle.std.specs.Prelude.{◌≡◌, ℕ, ◌+◌, ◌*◌, ◌⊎◌, List, [], ◌∷◌, length, min, Some}
use Rattle.paging_model.specs.Counting.{Count, IsIn}
use Rattle.paging_model.specs.Memory.{Memory}
use Rattle.paging_model.specs.TableUses.{IsUse, use_limit}
use Rattle.paging_model.specs.declared.registers.Processor.{Processor}
use Rattle.paging_model.specs.declared.spaces.SpaceKey.{SpaceKey}
use Rattle.history_model.specs.Bounds.{IsTable}
use Rattle.history_model.specs.History.{History, next, memory, processors, visited_pcids}
use Rattle.history_model.specs.Horizons.{slots_of, space}
use Rattle.history_model.specs.KeptSpaces.{AreKept, IsTouched, IsWrittenEntry}
use Rattle.history_model.specs.declared.events.Event.{Event}
use Rattle.history_model.specs.declared.events.Event.TheVariants as event

-- to build a space: the 512 entries of the table of each use, up to one use too many
pub record BuildCost (history : History) (key : SpaceKey) (steps : ℕ) : Type 0 where
  pub uses : ℕ
  pub are_uses : Count (IsUse (memory history) key.settings key.root) uses
  pub exact : steps ≡ 512 * min (use_limit + 1) uses

-- to list a space: nothing where it is kept, else what building it costs
abbrev pub ListCost : History → List SpaceKey → SpaceKey → ℕ → Type 0
ListCost history keys key steps =
    (IsIn key keys × (steps ≡ 0)) ⊎ ((IsIn key keys → ⊥) × BuildCost history key steps)

-- to update a kept space after a write: the table of each touched use, and each written entry
pub record UpdateCost (memory : Memory) (key : SpaceKey) (at n steps : ℕ) : Type 0 where
  pub touched : ℕ
  pub entries : ℕ
  pub are_touched : Count (IsTouched memory key at n) touched
  pub are_entries : Count (IsWrittenEntry memory key at n) entries
  pub exact : steps ≡ 512 * touched + entries

-- to update each kept space
abbrev pub UpdatesCost : Memory → ℕ → ℕ → List SpaceKey → ℕ → Type 0
UpdatesCost memory at n [] steps = steps ≡ 0
UpdatesCost memory at n (key ∷ rest) steps =
    (one : ℕ) × (others : ℕ) × UpdateCost memory key at n one × UpdatesCost memory at n rest others
    × (steps ≡ one + others)

-- to audit a processor: its tables twice, and two tables' entries for each pair of its PCIDs
pub record AuditCost (history : History) (cpu steps : ℕ) : Type 0 where
  pub key : SpaceKey
  pub is_space : space history cpu ≡ Some key
  pub tables : ℕ
  pub are_tables : Count (IsTable history key) tables
  pub exact : steps ≡ 1024 * (tables + length (visited_pcids history cpu) * length (visited_pcids history cpu))

-- to audit each processor
abbrev pub AuditsCost : History → List Processor → ℕ → Type 0
AuditsCost history [] steps = steps ≡ 0
AuditsCost history (processor ∷ rest) steps =
    (one : ℕ) × (others : ℕ) × AuditCost history processor.number one × AuditsCost history rest others
    × (steps ≡ one + others)

-- an accepted event, in the moment before it
abbrev pub Cost : History → Event → ℕ → Type 0
Cost history (event.List cpu) steps =
    (keys : List SpaceKey) × (key : SpaceKey) × AreKept history keys × (space history cpu ≡ Some key)
    × ListCost history keys key steps
Cost history (event.Write at bytes) steps =
    (keys : List SpaceKey) × (updates : ℕ) × AreKept history keys
    × UpdatesCost (memory (next history (event.Write at bytes))) at (length bytes) keys updates
    × (steps ≡ updates + slots_of (event.Write at bytes))
Cost history (event.Point all) steps = AuditsCost history (processors history) steps
Cost history _ steps = steps ≡ 5
