-- What a session stands for: the moment that a core and a list of accepted events lead to.
use Rattle.std.specs.Prelude.{◌≡◌, ℕ, Bool, false, All, List, []}
use Rattle.paging_model.specs.declared.registers.Machine.{Machine}
use Rattle.cache_rules.specs.Hosts.{Keeping}
use Rattle.elf_core.specs.declared.core_file.Core.{Core}
use Rattle.phys_view.specs.Seen.{Seen, memory_of, written_pages}
use Rattle.elf_core.specs.Cores.{IsConsistent}
use Rattle.history_model.specs.History.{Start, History, begun, start_of as beginning, memory, machine, pages, insert_processors, processors, time}
use Rattle.history_model.specs.KeptSpaces.{AreKept}
use Rattle.history_model.specs.Refusals.{LeadsTo}
use Rattle.space_map.specs.TrueSpaces.{IsTrueOf}
use Rattle.space_map.specs.declared.space.Space.{Space}
use Rattle.kept_spaces.specs.Keys.{keys_of}
use Rattle.version_store.specs.Changes.{KeptChanges}
use Rattle.version_store.specs.WrittenChanges.{kept_changes}
use Rattle.audit_core.specs.HostLists.{AreHostsOf, processors_of}

-- what a core states
abbrev pub core_start : Core → Start
core_start core = record {
  extents = core.segments;
  stated = core.stated;
  machine = core.machine;
  processors = insert_processors [] core.processors;
}

-- what a session holds: whether it is poisoned (memory ran out), the number of events so far, known memory and what writes
-- changed of it, the machine and whether it is stated, what is kept of each processor, in ascending order of their numbers,
-- and the spaces that are kept
pub record Holding : Type 0 where
  pub poisoned : Bool
  pub happened : ℕ
  pub seen : Seen
  pub kept : KeptChanges
  pub stated : Bool
  pub machine : Machine
  pub hosts : List Keeping
  pub spaces : List Space

-- the spaces of a session that isn't poisoned are true of memory
abbrev pub AreTrueSpaces : Bool → Seen → List Space → Type 0
AreTrueSpaces poisoned seen spaces = poisoned ≡ false → All (IsTrueOf (memory_of seen)) spaces

-- a session that isn't poisoned has all that a moment has: its memory too, the pages that were written to, the changes that
-- all writes made, the past of each processor, and the spaces that are kept
pub record HasAllOf (holding : Holding) (moment : History) : Type 0 where
  pub unpoisoned : holding.poisoned ≡ false
  pub time_is : time moment ≡ holding.happened
  pub segments_are : (beginning moment).extents ≡ holding.seen.extents
  pub pages_are : pages moment ≡ written_pages holding.seen
  pub memory_is : memory moment ≡ memory_of holding.seen
  pub changes_are : holding.kept ≡ kept_changes moment
  pub stated_is : (beginning moment).stated ≡ holding.stated
  pub machine_is : machine moment ≡ holding.machine
  pub processors_are : processors moment ≡ processors_of holding.hosts
  pub hosts_are : AreHostsOf moment holding.hosts
  pub spaces_are : AreKept moment (keys_of holding.spaces)

-- a session stands for a core and a list of accepted events: for the moment that they lead to
pub record StandsFor (holding : Holding) (moment : History) : Type 0 where
  pub core : Core
  pub consistent : IsConsistent core
  pub accepted : LeadsTo (begun (core_start core)) moment
  pub has_all : HasAllOf holding moment
