-- The spaces that are kept after they were listed, and what a write touches of one. Our own words, over SDM 3A, "4-Level
-- Paging and 5-Level Paging".
use Rattle.std.specs.Prelude.{◌≡◌, ℕ, ◌+◌, ◌-◌, ◌/◌, ◌%◌, ◌<◌, ◌==◌, ◌&&◌, ◌⊎◌, Bool, not, if◌then◌else◌, List, [], ◌∷◌, take, Option, Some, None}
use Rattle.paging_model.specs.BitRanges.{differs}
use Rattle.paging_model.specs.Memory.{Memory}
use Rattle.paging_model.specs.Registers.{root_of, settings_of}
use Rattle.paging_model.specs.TableUses.{Reaches, IsUse, IsTooLarge, IsWithinLimits}
use Rattle.paging_model.specs.Walking.{entry_address}
use Rattle.paging_model.specs.declared.entries.Bits.{Bits}
use Rattle.paging_model.specs.declared.registers.Machine.{Machine}
use Rattle.paging_model.specs.declared.registers.Regs.{Regs}
use Rattle.paging_model.specs.declared.registers.Settings.{Settings}
use Rattle.paging_model.specs.declared.spaces.SpaceKey.{SpaceKey}
use Rattle.paging_model.specs.declared.spaces.TableUse.{TableUse}
use Rattle.history_model.specs.History.{History, begun, next, memory, machine, regs, page_of}
use Rattle.history_model.specs.declared.events.Event.{Event}
use Rattle.history_model.specs.declared.events.Event.TheVariants as event

-- how many spaces are kept
abbrev pub kept_limit : ℕ
kept_limit = 16

-- the settings are equal
abbrev pub same_settings : Settings → Settings → Bool
same_settings one other =
    one.m == other.m && not (differs one.big other.big) && not (differs one.la57 other.la57)
    && not (differs one.nxe other.nxe)

-- root and settings are equal
abbrev pub same_key : SpaceKey → SpaceKey → Bool
same_key one other = one.root == other.root && same_settings one.settings other.settings

-- the space of a processor's present registers
abbrev pub space_of : Machine → Regs → SpaceKey
space_of machine known = record { root = root_of known machine; settings = settings_of known machine }

-- the others of a list
abbrev pub without : SpaceKey → List SpaceKey → List SpaceKey
without key [] = []
without key (one ∷ rest) = if same_key one key then without key rest else one ∷ without key rest

-- the space that is listed comes first, and the one that was listed longest ago goes
abbrev pub listed_first : SpaceKey → List SpaceKey → List SpaceKey
listed_first key earlier = take kept_limit (key ∷ without key earlier)

-- the space is too large to be kept
abbrev pub TooLargeIn : Memory → SpaceKey → Type 0
TooLargeIn memory key = IsTooLarge memory key.settings key.root

-- the space may be kept
abbrev pub WithinIn : Memory → SpaceKey → Type 0
WithinIn memory key = IsWithinLimits memory key.settings key.root

-- after a write the spaces that it makes too large go
abbrev pub StayKept : Memory → List SpaceKey → List SpaceKey → Type 0
StayKept memory [] keys = keys ≡ []
StayKept memory (one ∷ rest) keys =
    (TooLargeIn memory one × StayKept memory rest keys)
    ⊎ ((others : List SpaceKey) × WithinIn memory one × StayKept memory rest others × (keys ≡ one ∷ others))

-- a list keeps its space, unless that is too large
abbrev pub KeptAfterList : Memory → Machine → Option Regs → List SpaceKey → List SpaceKey → Type 0
KeptAfterList memory machine None earlier keys = keys ≡ earlier
KeptAfterList memory machine (Some known) earlier keys =
    (TooLargeIn memory (space_of machine known) × (keys ≡ earlier))
    ⊎ (WithinIn memory (space_of machine known) × (keys ≡ listed_first (space_of machine known) earlier))

-- what an event makes of the kept spaces; only a list and a write change them
abbrev pub KeptAfter : History → Event → List SpaceKey → List SpaceKey → Type 0
KeptAfter before (event.List cpu) earlier keys =
    KeptAfterList (memory before) (machine before) (regs before cpu) earlier keys
KeptAfter before (event.Write at bytes) earlier keys =
    StayKept (memory (next before (event.Write at bytes))) earlier keys
KeptAfter before _ earlier keys = keys ≡ earlier

-- the kept spaces, the one that was listed last first
abbrev pub AreKept : History → List SpaceKey → Type 0
AreKept (begun start) keys = keys ≡ []
AreKept (next before happened) keys =
    (earlier : List SpaceKey) × AreKept before earlier × KeptAfter before happened earlier keys

-- a slot, which is eight aligned bytes of memory, that a write of so many bytes touches
pub record IsWrittenSlot (at n slot : ℕ) : Type 0 where
  pub aligned : slot % 8 ≡ 0
  pub begins : slot < at + n
  pub ends : at < slot + 8

-- the number of slots that a write touches, of a byte at least
abbrev pub slots_written : ℕ → ℕ → ℕ
slots_written at n = (at + n - 1) / 8 + 1 - at / 8

-- a use that is reached by an entry in a written slot
pub record IsTouched (memory : Memory) (key : SpaceKey) (at n : ℕ) (table : TableUse) : Type 0 where
  pub use_is : IsUse memory key.settings key.root table
  pub level : ℕ
  pub frame : ℕ
  pub bits : Bits
  pub above : table.level < level
  pub reached : Reaches memory key.settings key.root level table.prefix frame bits
  pub written : IsWrittenSlot at n (entry_address level table.prefix frame)

-- an entry that is written: of a use of the written frame, and in this slot
pub record IsWrittenEntry (memory : Memory) (key : SpaceKey) (at n : ℕ) (entry : TableUse × ℕ) : Type 0 where
  pub use_is : IsUse memory key.settings key.root entry.0
  pub frame : entry.0.frame ≡ page_of at
  pub slot : IsWrittenSlot at n entry.1
