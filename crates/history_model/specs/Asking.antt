-- Whether an access is granted, and at which physical address.
-- SDM 3A, "4-Level Paging and 5-Level Paging": a translation exists where the walk ends at a page; "Determination of Access
-- Rights": whether it permits the access.
use Rattle.std.specs.Prelude.{ℕ, ◌+◌, ◌%◌, Option, Some, None, Result, Ok, Err}
use Rattle.paging_model.specs.Memory.{Memory}
use Rattle.paging_model.specs.AccessRights.{denial_of}
use Rattle.paging_model.specs.Pointers.{aim_of}
use Rattle.paging_model.specs.Registers.{root_of, settings_of}
use Rattle.paging_model.specs.Walking.{walk}
use Rattle.paging_model.specs.declared.access.Access.{Access}
use Rattle.paging_model.specs.declared.access.AimRule.{AimRule}
use Rattle.paging_model.specs.declared.access.AimRule.TheVariants as aim
use Rattle.paging_model.specs.declared.access.Rule.{Rule}
use Rattle.paging_model.specs.declared.registers.Machine.{Machine}
use Rattle.paging_model.specs.declared.registers.Regs.{Regs}
use Rattle.paging_model.specs.declared.walks.Walk.{Walk}
use Rattle.paging_model.specs.declared.walks.Walk.TheVariants as walked
use Rattle.history_model.specs.declared.answers.Why.{Why}
use Rattle.history_model.specs.declared.answers.Why.TheVariants.{NotCanonical, Lass, Unknown, Absent, Reserved, Denied}

-- the address, unless a rule denies the access
abbrev pub unless_denied : ℕ → Option Rule → Result ℕ Why
unless_denied address None = Ok address
unless_denied address (Some rule) = Err (Denied rule)

-- the answer at the end of the walk of x: the frame and the offset in the page, unless the access is denied
abbrev pub at_end : Regs → Access → ℕ → Walk → Result ℕ Why
at_end regs access x (walked.Mapped page) = unless_denied (page.frame + x % 4096) (denial_of regs access page.bits page.key)
at_end regs access x (walked.Absent level) = Err (Absent level)
at_end regs access x (walked.Reserved level) = Err (Reserved level)
at_end regs access x (walked.Unknown level) = Err (Unknown level)

-- the walk of an aimed address, from the present root
abbrev pub after_aim : Memory → Machine → Regs → Access → Result ℕ AimRule → Result ℕ Why
after_aim memory machine regs access (Err aim.NotCanonical) = Err NotCanonical
after_aim memory machine regs access (Err aim.Lass) = Err Lass
after_aim memory machine regs access (Ok x) =
    at_end regs access x (walk memory (settings_of regs machine) (root_of regs machine) x)

-- the pointer's rules come first, then the walk, then the rules of the page
abbrev pub answer_to_ask : Memory → Machine → Regs → Access → ℕ → Result ℕ Why
answer_to_ask memory machine regs access pointer = after_aim memory machine regs access (aim_of regs access pointer)
