-- Lists of hosts, one for each processor, ascending by number, and what an event leaves of them. (Our own words.)
use Rattle.std.specs.Prelude.{◌≡◌, ℕ, ◌<◌, ◌==◌, Bool, nat_lt, if◌then◌else◌, List, [], ◌∷◌, length, map, set, slice_index_or, Some}
use Rattle.std.specs.List.{All}
use Rattle.paging_model.specs.declared.registers.Machine.{Machine}
use Rattle.paging_model.specs.declared.registers.Processor.{Processor}
use Rattle.paging_model.specs.declared.registers.RegChange.{RegChange}
use Rattle.paging_model.specs.declared.registers.Regs.{Regs}
use Rattle.paging_model.specs.RegisterRules.{with_change}
use Rattle.history_model.specs.History.{History, regs_in}
use Rattle.history_model.specs.declared.events.Event.{Event}
use Rattle.history_model.specs.declared.events.Event.TheVariants as event
use Rattle.cache_rules.specs.Hosts.{Keeping, IsBefore, IsNoted, new_host}
use Rattle.cache_rules.specs.Standing.{IsHostOf}
use Rattle.audit_points.specs.Audits.{IsAuditable}
use Rattle.audit_core.specs.ProcessorNumbers.{HaveDistinctNumbers}

-- the processor of a host, with its present registers
abbrev pub processor_of : Keeping → Processor
processor_of host = record { number = host.number; regs = host.regs }

abbrev pub processors_of : List Keeping → List Processor
processors_of hosts = map processor_of hosts

-- a host among others, ascending by number
abbrev pub insert_host : Keeping → List Keeping → List Keeping
insert_host host [] = host ∷ []
insert_host host (one ∷ rest) =
    if nat_lt host.number one.number then host ∷ one ∷ rest else one ∷ insert_host host rest

-- the host is that of the processor with a number
abbrev pub is_host_of_number : ℕ → Keeping → Bool
is_host_of_number number host = host.number == number

-- the host is that of a processor with a greater number
abbrev pub is_host_of_greater : ℕ → Keeping → Bool
is_host_of_greater number host = nat_lt number host.number

-- each is what is kept of its processor's part in a history
abbrev pub AreHostsOf : History → List Keeping → Type 0
AreHostsOf history hosts = All (λ host. IsHostOf host history) hosts

-- each has noted nothing at a time or later
abbrev pub AreBefore : ℕ → List Keeping → Type 0
AreBefore t hosts = All (λ host. IsBefore host t) hosts

-- each can be audited at a time
abbrev pub AreAuditable : ℕ → List Keeping → Type 0
AreAuditable now hosts = All (λ host. IsAuditable host now) hosts

-- each is what is kept before the first event
abbrev pub AreNewHosts : Machine → List Keeping → Type 0
AreNewHosts machine hosts = All (λ host. host ≡ new_host host.number host.regs machine) hosts

-- the host of a processor stands at an index, and has its registers; each number stands once
pub record IsHostAt (hosts : List Keeping) (cpu index : ℕ) : Type 0 where
  pub within : index < length hosts
  pub number_is : (d : Keeping) → (slice_index_or hosts index d).number ≡ cpu
  pub regs_are : (d : Keeping) → regs_in (processors_of hosts) cpu ≡ Some (slice_index_or hosts index d).regs
  pub distinct : HaveDistinctNumbers (processors_of hosts)

-- the host at an index notes an event that leads to a time and to these registers; the others stay
pub record NotesAt (index now : ℕ) (happened : Event) (after : Regs) (old new : List Keeping) : Type 0 where
  pub host : Keeping
  pub noted : (d : Keeping) → IsNoted (slice_index_or old index d) now happened after host
  pub is : new ≡ set old index host

-- the host of a processor notes an event that leads to a time, and that makes this of the processor's registers
pub record Notes (now cpu : ℕ) (happened : Event) (changed : Regs → Regs) (old new : List Keeping) : Type 0 where
  pub index : ℕ
  pub at : IsHostAt old cpu index
  pub known : Regs
  pub is_known : regs_in (processors_of old) cpu ≡ Some known
  pub noted : NotesAt index now happened (changed known) old new

-- a register of a processor is changed
abbrev pub SetsRegister : ℕ → ℕ → RegChange → List Keeping → List Keeping → Type 0
SetsRegister now cpu change old new = Notes now cpu (event.Set cpu change) (λ known. with_change change known) old new

-- an event of a processor leaves its registers
abbrev pub Invalidates : ℕ → ℕ → Event → List Keeping → List Keeping → Type 0
Invalidates now cpu happened old new = Notes now cpu happened (λ known. known) old new
