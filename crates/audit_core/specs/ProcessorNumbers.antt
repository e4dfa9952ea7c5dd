-- Lists of processors, by their numbers.
use Rattle.std.specs.Prelude.{◌≡◌, ℕ, Bool, nat_lt, List, [], ◌∷◌, Option, None}
use Rattle.paging_model.specs.RegisterRules.{change_of}
use Rattle.paging_model.specs.declared.registers.Machine.{Machine}
use Rattle.paging_model.specs.declared.registers.Processor.{Processor}
use Rattle.paging_model.specs.declared.registers.RegChange.{RegChange}
use Rattle.history_model.specs.History.{insert_processor, regs_in}
use Rattle.history_model.specs.Refusals.{if_illegal, invpcid_refusal, of_known}
use Rattle.history_model.specs.declared.faults.StepFault.{StepFault}

-- the processor has a greater number
abbrev pub has_greater_number : ℕ → Processor → Bool
has_greater_number number processor = nat_lt number processor.number

-- each processor has a number of its own
abbrev pub HaveDistinctNumbers : List Processor → Type 0
HaveDistinctNumbers [] = Unit {0}
HaveDistinctNumbers (one ∷ rest) = (regs_in rest one.number ≡ None) × HaveDistinctNumbers rest

-- each processor, as it is inserted, has a number that none before it has
abbrev pub HaveNewNumbers : List Processor → List Processor → Type 0
HaveNewNumbers before [] = Unit {0}
HaveNewNumbers before (one ∷ rest) =
    (regs_in before one.number ≡ None) × HaveNewNumbers (insert_processor one before) rest

-- why a change of a processor's registers is refused
abbrev pub set_refusal : Machine → List Processor → ℕ → RegChange → Option StepFault
set_refusal machine processors cpu change =
    of_known cpu (λ known. if_illegal (change_of machine change known)) (regs_in processors cpu)

-- why INVPCID by a processor is refused
abbrev pub known_invpcid_refusal : List Processor → ℕ → ℕ → ℕ → ℕ → Option StepFault
known_invpcid_refusal processors cpu kind pcid address =
    of_known cpu (λ known. invpcid_refusal kind pcid address known) (regs_in processors cpu)
