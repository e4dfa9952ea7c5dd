-- Why an event is refused, if it is: the first reason in order.
-- SDM 2, "INVPCID" for its operands; SDM 3A, "Control Registers" for register values.
use Rattle.std.specs.Prelude.{◌≡◌, ℕ, zero, suc, ◌+◌, ◌-◌, ◌==◌, ◌&&◌, ◌||◌, not, Bool, true, false, List, [], ◌∷◌, length, Option, Some, None, is_some, Result, Ok, Err, nat_le, nat_lt, if◌then◌else◌}
use Rattle.std.specs.Option.{option_or}
use Rattle.paging_model.specs.Memory.{Memory}
use Rattle.paging_model.specs.Registers.{la57, pcide}
use Rattle.paging_model.specs.RegisterRules.{check_of, change_of}
use Rattle.paging_model.specs.LinearAddress.{is_canonical}
use Rattle.paging_model.specs.declared.registers.Processor.{Processor}
use Rattle.paging_model.specs.declared.registers.RegRule.{RegRule}
use Rattle.paging_model.specs.declared.registers.Regs.{Regs}
use Rattle.history_model.specs.History.{History, begun, next, after_event, memory, machine, page_of, pages, regs, regs_in}
use Rattle.history_model.specs.declared.events.Event.{Event}
use Rattle.history_model.specs.declared.events.Event.TheVariants as event
use Rattle.history_model.specs.declared.faults.StepFault.{StepFault}
use Rattle.history_model.specs.declared.faults.StepFault.TheVariants.{LateState, DoubleProcessor, TooManyProcessors, NoProcessor, BadType, BadPcid, NotCanonical, Illegal, Unknown, Crosses, OverlayFull}

-- the greatest number of processors
abbrev pub processor_limit : ℕ
processor_limit = 64

-- the greatest number of physical pages that are written to
abbrev pub page_limit : ℕ
page_limit = 262144

-- a rule for registers is broken
abbrev pub if_illegal : Result (Unit {0}) RegRule → Option StepFault
if_illegal (Ok _) = None
if_illegal (Err rule) = Some (Illegal rule)

-- there are no processors
abbrev pub is_empty : List Processor → Bool
is_empty [] = true
is_empty (one ∷ rest) = false

-- the machine is stated once, before processors and events
abbrev pub machine_refusal : History → Option StepFault
machine_refusal (begun start) = if start.stated || not (is_empty start.processors) then Some LateState else None
machine_refusal (next before happened) = Some LateState

-- a processor is stated before the first event, under a number of its own
abbrev pub cpu_refusal : History → ℕ → Regs → Option StepFault
cpu_refusal (next before happened) cpu given = Some LateState
cpu_refusal (begun start) cpu given =
    if is_some (regs_in start.processors cpu) then Some (DoubleProcessor cpu) else
    (if nat_le processor_limit (length start.processors) then Some TooManyProcessors else
    if_illegal (check_of start.machine given))

-- the processor isn't known
abbrev pub if_unknown : ℕ → Option Regs → Option StepFault
if_unknown cpu None = Some (NoProcessor cpu)
if_unknown cpu (Some known) = None

-- the reason that the registers of a known processor give
abbrev pub of_known : ℕ → (Regs → Option StepFault) → Option Regs → Option StepFault
of_known cpu reason None = Some (NoProcessor cpu)
of_known cpu reason (Some known) = reason known

-- types are 0 to 3; PCIDs have 12 bits, and without CR4.PCIDE types 0 and 1 need PCID 0; type 0 needs a canonical address
abbrev pub invpcid_refusal : ℕ → ℕ → ℕ → Regs → Option StepFault
invpcid_refusal kind pcid address known =
    if nat_lt 3 kind then Some BadType else
    (if nat_lt 4095 pcid || (nat_le kind 1 && not (pcid == 0) && not (pcide known)) then Some BadPcid else
    (if kind == 0 && not (is_canonical (la57 known) address) then Some NotCanonical else None))

-- the first byte, of so many from an address on, that isn't known
abbrev pub first_unknown : Memory → ℕ → ℕ → Option ℕ
first_unknown known a zero = None
first_unknown known a (suc n) = if is_some (known a) then first_unknown known (a + 1) n else Some a

-- the number is in the list
abbrev pub is_among : ℕ → List ℕ → Bool
is_among n [] = false
is_among n (one ∷ rest) = n == one || is_among n rest

-- a write changes known bytes of one page; so many pages may be written to
abbrev pub write_refusal : Memory → List ℕ → ℕ → ℕ → Option StepFault
write_refusal known touched at n = option_or (first_refusal (first_unknown known at n)) (page_refusal (at + n - 1))
  where
    first_refusal : Option ℕ → Option StepFault
    first_refusal None = None
    first_refusal (Some a) = Some (Unknown a)

    page_refusal : ℕ → Option StepFault
    page_refusal last =
        if not (page_of last == page_of at) then Some (Crosses (page_of at + 4096)) else
        (if not (is_among (page_of at) touched) && nat_le page_limit (length touched) then Some OverlayFull else None)

-- why an event is refused in a moment: the first reason; that memory ran out is none
abbrev pub refusal : History → Event → Option StepFault
refusal history (event.Machine machine) = machine_refusal history
refusal history (event.Cpu cpu given) = cpu_refusal history cpu given
refusal history (event.Write at bytes) = write_refusal (memory history) (pages history) at (length bytes)
refusal history (event.Set cpu change) =
    of_known cpu (λ known. if_illegal (change_of (machine history) change known)) (regs history cpu)
refusal history (event.Invlpg cpu address) = if_unknown cpu (regs history cpu)
refusal history (event.Invpcid cpu kind pcid address) =
    of_known cpu (λ known. invpcid_refusal kind pcid address known) (regs history cpu)
refusal history (event.Ask cpu access pointer) = if_unknown cpu (regs history cpu)
refusal history (event.List cpu) = if_unknown cpu (regs history cpu)
refusal history (event.Point all) = None

-- the moments that accepted state lines and events lead to, one after another
pub data LeadsTo (start : History) : History → Type 0 where
  begins : LeadsTo start start
  goes_on : {moment : History} (happened : Event) → LeadsTo start moment → refusal moment happened ≡ None
      → LeadsTo start (after_event happened moment)
