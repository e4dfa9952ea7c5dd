-- How many steps, each a read of eight aligned bytes of memory, an accepted event may take. So many distinct uses, entries
-- or tables account for them: no one has to count all that a space has. (Our own bounds, of no manual.)
use Rattle.std.specs.Prelude.{◌≡◌, ℕ, ◌+◌, ◌*◌, ◌≤◌, ◌⊎◌, List, [], ◌∷◌, length, Some}
use Rattle.paging_model.specs.Counting.{AtLeast, IsIn}
use Rattle.paging_model.specs.Memory.{Memory}
use Rattle.paging_model.specs.TableUses.{IsUse, use_limit}
use Rattle.paging_model.specs.declared.registers.Processor.{Processor}
use Rattle.paging_model.specs.declared.spaces.SpaceKey.{SpaceKey}
use Rattle.paging_model.specs.declared.spaces.TableUse.{TableUse}
use Rattle.history_model.specs.History.{History, next, memory, processors, visited_pcids}
use Rattle.history_model.specs.Horizons.{slots_of, space}
use Rattle.history_model.specs.KeptSpaces.{AreKept, IsTouched, IsWrittenEntry}
use Rattle.history_model.specs.declared.events.Event.{Event}
use Rattle.history_model.specs.declared.events.Event.TheVariants as event

-- a space is built by reading the 512 entries of a table once for each use of it, of one use too many at most
pub record BuildMayTake (history : History) (key : SpaceKey) (steps : ℕ) : Type 0 where
  pub uses : ℕ
  pub are_uses : AtLeast uses (IsUse (memory history) key.settings key.root)
  pub few : uses ≤ use_limit + 1
  pub bound : steps ≤ 512 * uses

-- a kept space is listed without a step, and another one is built
abbrev pub ListMayTake : History → List SpaceKey → SpaceKey → ℕ → Type 0
ListMayTake history keys key steps =
    (IsIn key keys × (steps ≡ 0)) ⊎ ((IsIn key keys → ⊥) × BuildMayTake history key steps)

-- a kept space is updated after a write by reading the tables of touched uses again, and the written entries
pub record UpdateMayTake (memory : Memory) (key : SpaceKey) (at n steps : ℕ) : Type 0 where
  pub touched : ℕ
  pub entries : ℕ
  pub are_touched : AtLeast touched (IsTouched memory key at n)
  pub are_entries : AtLeast entries (IsWrittenEntry memory key at n)
  pub bound : steps ≤ 512 * touched + entries

-- each kept space is updated
abbrev pub UpdatesMayTake : Memory → ℕ → ℕ → List SpaceKey → ℕ → Type 0
UpdatesMayTake memory at n [] steps = steps ≡ 0
UpdatesMayTake memory at n (key ∷ rest) steps =
    (one : ℕ) × (others : ℕ) × UpdateMayTake memory key at n one × UpdatesMayTake memory at n rest others
    × (steps ≡ one + others)

-- a level and a frame at which some table of a space is used
pub record IsTable (history : History) (key : SpaceKey) (table : ℕ × ℕ) : Type 0 where
  pub at : TableUse
  pub use_is : IsUse (memory history) key.settings key.root at
  pub level : at.level ≡ table.0
  pub frame : at.frame ≡ table.1

-- a processor is audited by reading its tables twice, and two tables' entries for each pair of its PCIDs
pub record AuditMayTake (history : History) (cpu steps : ℕ) : Type 0 where
  pub key : SpaceKey
  pub is_space : space history cpu ≡ Some key
  pub tables : ℕ
  pub are_tables : AtLeast tables (IsTable history key)
  pub bound : steps ≤ 1024 * (tables + length (visited_pcids history cpu) * length (visited_pcids history cpu))

-- each processor is audited
abbrev pub AuditsMayTake : History → List Processor → ℕ → Type 0
AuditsMayTake history [] steps = steps ≡ 0
AuditsMayTake history (processor ∷ rest) steps =
    (one : ℕ) × (others : ℕ) × AuditMayTake history processor.number one × AuditsMayTake history rest others
    × (steps ≡ one + others)

-- an accepted event may take so many steps, in the moment before it
abbrev pub MayTake : History → Event → ℕ → Type 0
MayTake history (event.List cpu) steps =
    (keys : List SpaceKey) × (key : SpaceKey) × AreKept history keys × (space history cpu ≡ Some key)
    × ListMayTake history keys key steps
MayTake history (event.Write at bytes) steps =
    (keys : List SpaceKey) × (updates : ℕ) × AreKept history keys
    × UpdatesMayTake (memory (next history (event.Write at bytes))) at (length bytes) keys updates
    × (steps ≤ updates + slots_of (event.Write at bytes))
MayTake history (event.Point all) steps = AuditsMayTake history (processors history) steps
MayTake history _ steps = steps ≤ 5
