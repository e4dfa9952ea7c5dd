-- Which entries a walk reads that a write changed. A place is the physical address of eight bytes; a test says of each
-- whether it is written. SDM 3A, "4-Level Paging and 5-Level Paging": a walk reads one entry of each level, from the top
-- down, up to one that references no table.
use Rattle.std.specs.Prelude.{◌≡◌, ℕ, ◌+◌, ◌-◌, ◌*◌, ◌<◌, ◌≤◌, ◌&&◌, ◌⊎◌, Bool, true, false, nat_lt}
use Rattle.paging_model.specs.Memory.{Memory, entry_at}
use Rattle.paging_model.specs.TableUses.{Reaches}
use Rattle.paging_model.specs.Walking.{entry_address}
use Rattle.paging_model.specs.declared.registers.Settings.{Settings}
use Rattle.paging_model.specs.declared.entries.Bits.{Bits}

-- the eight bytes at a place meet a write of so many bytes
abbrev pub meets : ℕ → ℕ → ℕ → Bool
meets at n place = nat_lt place (at + n) && nat_lt at (place + 8)

-- they meet the slots of a frame from a first to a last one, of 512
abbrev pub meets_slots : ℕ → ℕ → ℕ → ℕ → Bool
meets_slots frame first last place = meets (frame + 8 * first) (8 * (last + 1 - first)) place

-- each byte outside a write is the same in both memories
abbrev pub IsWrittenTo : ℕ → ℕ → Memory → Memory → Type 0
IsWrittenTo at n old new = (a : ℕ) → ((a < at) ⊎ (at + n ≤ a)) → old a ≡ new a

-- each entry that isn't written is the same in both memories
abbrev pub AreAlikeBut : (ℕ → Bool) → Memory → Memory → Type 0
AreAlikeBut written one other = (place : ℕ) → written place ≡ false → entry_at one place ≡ entry_at other place

-- the walk of x reads no written place
abbrev pub ReadsNone : Memory → (ℕ → Bool) → Settings → ℕ → ℕ → Type 0
ReadsNone memory written settings root x =
    (level table : ℕ) (above : Bits) → Reaches memory settings root level x table above
    → written (entry_address level x table) ≡ false

-- it reads none at the levels above one
abbrev pub ReadsNoneAbove : Memory → (ℕ → Bool) → Settings → ℕ → ℕ → ℕ → Type 0
ReadsNoneAbove memory written settings root x least =
    (level table : ℕ) (above : Bits) → least < level → Reaches memory settings root level x table above
    → written (entry_address level x table) ≡ false

-- the first written place that the walk of x reads, from the top down: the entry of a level in a table, with these bits
-- joined above it
pub record IsOutermost (memory : Memory) (written : ℕ → Bool) (settings : Settings) (root x level table : ℕ)
    (above : Bits) : Type 0 where
  pub reached : Reaches memory settings root level x table above
  pub is_written : written (entry_address level x table) ≡ true
  pub none_above : ReadsNoneAbove memory written settings root x level

-- the walk of x reads a written place
pub record ReadsOne (memory : Memory) (written : ℕ → Bool) (settings : Settings) (root x : ℕ) : Type 0 where
  pub level : ℕ
  pub table : ℕ
  pub above : Bits
  pub outermost : IsOutermost memory written settings root x level table above
