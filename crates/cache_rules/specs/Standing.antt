-- What is kept of a processor, and the history that it stands for. (Our own words.)
use Rattle.std.specs.Prelude.{◌≡◌, ℕ, ◌+◌, ◌<◌, ◌≤◌, ◌^◌, List, [], ◌∷◌, Option, Some, None, nat_le, if◌then◌else◌}
use Rattle.paging_model.specs.Registers.{la57, nxe, pcid_of, pge, root_of}
use Rattle.paging_model.specs.declared.registers.Machine.{Machine}
use Rattle.paging_model.specs.declared.registers.Regs.{Regs}
use Rattle.history_model.specs.History.{History, machine, regs, time, last_root, visited_pcids}
use Rattle.history_model.specs.Horizons.{horizon}
use Rattle.history_model.specs.declared.caches.CacheKey.{CacheKey}
use Rattle.history_laws.specs.MomentsByTime.{moment_at, taken_at}
use Rattle.cache_rules.specs.Hosts.{Keeping, IsBefore, IsOrdered, home_pcids, root_in}
use Rattle.cache_rules.specs.Removals.{removed_in}
use Rattle.cache_rules.specs.declared.stays.Stay.{Stay}

-- the later one of two stays, where it is there
abbrev pub last_stay : Option Stay → Option Stay → Option Stay
last_stay earlier (Some one) = Some one
last_stay earlier None = earlier

-- the last stay that began by a time
abbrev pub stay_in : List Stay → ℕ → Option Stay
stay_in [] t = None
stay_in (one ∷ rest) t = last_stay (if nat_le one.from t then Some one else None) (stay_in rest t)

-- a stay under these registers
pub record IsStay (machine : Machine) (known : Regs) (stay : Stay) : Type 0 where
  pub pcid : stay.pcid ≡ pcid_of known
  pub root : stay.root ≡ root_of known machine
  pub nxe_is : stay.nxe ≡ nxe known
  pub pge_is : stay.pge ≡ pge known

-- the kept stay at a time is that of the registers at this time
pub record IsStayAt (host : Keeping) (history : History) (t : ℕ) : Type 0 where
  pub known : Regs
  pub stay : Stay
  pub is_known : regs (moment_at history t) host.number ≡ Some known
  pub is_kept : stay_in host.past t ≡ Some stay
  pub is_stay : IsStay host.machine known stay

-- what is kept of a processor is what it did in a history
pub record IsHostOf (host : Keeping) (history : History) : Type 0 where
  pub is_known : regs history host.number ≡ Some host.regs
  pub machine_is : machine history ≡ host.machine
  pub horizon_is : horizon history host.number ≡ host.horizon
  pub ordered : IsOrdered host
  pub before : IsBefore host (time history + 1)
  -- each event after the beginning took what its removal takes
  pub removals_are : (key : CacheKey) → key.pcid < 2 ^ 16 → (t : ℕ)
      → removed_in host.removals key t ≡ taken_at history host.number key t
  pub stays : (t : ℕ) → t ≤ time history → IsStayAt host history t
  pub last_stays : (t : ℕ) → time history ≤ t → stay_in host.past t ≡ stay_in host.past (time history)
  pub homes_are : (c : ℕ) → root_in host.homes c ≡ last_root history host.number c
  pub pcids_are : home_pcids host ≡ visited_pcids history host.number
  -- since the processor lost everything, PGE was the same
  pub pge_is : (t : ℕ) (known : Regs) → host.horizon ≤ t → t ≤ time history
      → regs (moment_at history t) host.number ≡ Some known → pge known ≡ pge host.regs
  pub la57_is : (t : ℕ) (known : Regs) → t ≤ time history
      → regs (moment_at history t) host.number ≡ Some known → la57 known ≡ la57 host.regs
