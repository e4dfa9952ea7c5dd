-- What is kept of one processor, and what an event makes of it. (Our own words.)
use Rattle.std.specs.Prelude.{◌≡◌, ℕ, ◌<◌, ◌==◌, ◌||◌, not, Bool, if◌then◌else◌, Option, Some, None, List, [], ◌∷◌, ◌++◌, map, nat_lt}
use Rattle.std.specs.List.{All}
use Rattle.paging_model.specs.BitRanges.{differs}
use Rattle.paging_model.specs.Registers.{nxe, pcid_of, pge, root_of}
use Rattle.paging_model.specs.declared.registers.Machine.{Machine}
use Rattle.paging_model.specs.declared.registers.Regs.{Regs}
use Rattle.history_model.specs.Invalidations.{loses_all}
use Rattle.history_model.specs.declared.events.Event.{Event}
use Rattle.cache_rules.specs.Removals.{AreAscending, IsRemovalOf}
use Rattle.cache_rules.specs.declared.removals.Removal.{Removal}
use Rattle.cache_rules.specs.declared.removals.Removed.{Removed}
use Rattle.cache_rules.specs.declared.stays.Stay.{Stay}

-- a processor's number, its machine, its present registers, the last time at which it lost everything, its stays and its
-- removals by ascending times, and the root that it had last in each PCID, by ascending PCIDs
pub record Keeping : Type 0 where
  pub number : ℕ
  pub machine : Machine
  pub regs : Regs
  pub horizon : ℕ
  pub past : List Stay
  pub removals : List Removed
  pub homes : List (ℕ × ℕ)

-- the stay under these registers, from a time on
abbrev pub stay_from : ℕ → Machine → Regs → Stay
stay_from t machine known =
    record { root = root_of known machine; from = t; pcid = pcid_of known; nxe = nxe known; pge = pge known }

-- whether the PCID, the root, NXE or PGE is another one
abbrev pub is_moved : Machine → Regs → Regs → Bool
is_moved machine before after =
    not (pcid_of before == pcid_of after) || not (root_of before machine == root_of after machine)
    || differs (nxe before) (nxe after) || differs (pge before) (pge after)

-- the stay that begins at a time, where one does
abbrev pub new_stay : ℕ → Machine → Regs → Regs → Option Stay
new_stay now machine before after = if is_moved machine before after then Some (stay_from now machine after) else None

-- stays, and one that begins
abbrev pub with_stay : Option Stay → List Stay → List Stay
with_stay None past = past
with_stay (Some one) past = past ++ one ∷ []

-- removals, and that of an event which removes something
abbrev pub with_removal : ℕ → Option Removal → List Removed → List Removed
with_removal t None removals = removals
with_removal t (Some one) removals = removals ++ record { time = t; removal = one } ∷ []

-- the roots of PCIDs, ascending by PCID, with a new root of one of them, or of one more
abbrev pub with_home : ℕ → ℕ → List (ℕ × ℕ) → List (ℕ × ℕ)
with_home c root [] = (c, root) ∷ []
with_home c root (one ∷ rest) =
    if c == one.0 then (c, root) ∷ rest
    else (if nat_lt c one.0 then (c, root) ∷ one ∷ rest else one ∷ with_home c root rest)

-- the same of a stay that begins
abbrev pub with_home_of : Option Stay → List (ℕ × ℕ) → List (ℕ × ℕ)
with_home_of None homes = homes
with_home_of (Some stay) homes = with_home stay.pcid stay.root homes

-- the root of a PCID among those of others
abbrev pub root_in : List (ℕ × ℕ) → ℕ → Option ℕ
root_in [] c = None
root_in (one ∷ rest) c = if one.0 == c then Some one.1 else root_in rest c

-- the times of removals, the first times of stays, and the PCIDs of roots
abbrev pub removal_times : Keeping → List ℕ
removal_times host = map (λ (one : Removed). one.time) host.removals

abbrev pub stay_times : Keeping → List ℕ
stay_times host = map (λ (one : Stay). one.from) host.past

abbrev pub home_pcids : Keeping → List ℕ
home_pcids host = map (λ (one : ℕ × ℕ). one.0) host.homes

-- the times of removals, the first times of stays, and the PCIDs of roots ascend
pub record IsOrdered (host : Keeping) : Type 0 where
  pub removals : AreAscending 0 (removal_times host)
  pub past : AreAscending 0 (stay_times host)
  pub homes : AreAscending 0 (home_pcids host)

-- each removal and the beginning of each stay was before a time
pub record IsBefore (host : Keeping) (t : ℕ) : Type 0 where
  pub removals : All (λ u. u < t) (removal_times host)
  pub past : All (λ u. u < t) (stay_times host)

-- what is kept of a processor before the first event
abbrev pub new_host : ℕ → Regs → Machine → Keeping
new_host number regs machine = record {
  number = number;
  machine = machine;
  regs = regs;
  horizon = 0;
  past = stay_from 0 machine regs ∷ [];
  removals = [];
  homes = (pcid_of regs, root_of regs machine) ∷ [];
}

-- what is kept after an event that leads to a time and to these registers, and has this removal
abbrev pub host_after : Keeping → ℕ → Event → Option Removal → Regs → Keeping
host_after old now happened removal after = record {
  number = old.number;
  machine = old.machine;
  regs = after;
  horizon = if loses_all happened old.number old.regs then now else old.horizon;
  past = with_stay (new_stay now old.machine old.regs after) old.past;
  removals = with_removal now removal old.removals;
  homes = with_home_of (new_stay now old.machine old.regs after) old.homes;
}

-- an event that leads to a time and to these registers is noted
pub record IsNoted (old : Keeping) (now : ℕ) (happened : Event) (after : Regs) (new : Keeping) : Type 0 where
  pub removal : Option Removal
  pub removes : IsRemovalOf happened old.number old.regs removal
  pub is : new ≡ host_after old now happened removal after
