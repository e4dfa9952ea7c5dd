-- The registers of a processor after a change of one processor's.
use Rattle.std.proofs.Common.{◌≡◌, ◌≢◌, ℕ, Bool, true, false, Option, Some, List, [], ◌∷◌, refl, sym, ap, ◌∙◌, arith}
use Rattle.std.specs.Prelude.{◌==◌, if◌then◌else◌, map, option_map}
use Rattle.std.proofs.lemmas.Bool.Decides.{nat_tests}
use Rattle.paging_model.specs.RegisterRules.{with_change}
use Rattle.paging_model.specs.declared.registers.Processor.{Processor}
use Rattle.paging_model.specs.declared.registers.RegChange.{RegChange}
use Rattle.paging_model.specs.declared.registers.Regs.{Regs}
use Rattle.history_model.specs.History.{processors_after, regs_in, set_in}
use Rattle.history_model.specs.declared.events.Event.{Event}
use Rattle.history_model.specs.declared.events.Event.TheVariants as event
use Rattle.history_reference.specs.Moments.{changed_processor}

module _ (change : RegChange) where
  of_first : (of : ℕ) (one : Processor) (rest after : List Processor) (same : Bool) → (one.number == of) ≡ same
      → regs_in after of ≡ option_map (with_change change) (regs_in rest of)
      → regs_in ((if same then (record one { regs = with_change change one.regs }) else one) ∷ after) of
      ≡ option_map (with_change change) (if same then Some one.regs else regs_in rest of)
  of_first of one rest after true is_same later = rw is_same refl
  of_first of one rest after false is_same later = rw is_same later

  -- of the processor itself
  pub regs_in-set : (of : ℕ) (list : List Processor) → regs_in (set_in of change list) of ≡ option_map (with_change change) (regs_in list of)
  regs_in-set of [] = refl
  regs_in-set of (one ∷ rest) = of_first of one rest (set_in of change rest) (one.number == of) refl (regs_in-set of rest)

  past_first : (of cpu : ℕ) (one : Processor) (rest after : List Processor) (same : Bool) → (one.number == of) ≡ same → of ≢ cpu
      → regs_in after cpu ≡ regs_in rest cpu
      → regs_in ((if same then (record one { regs = with_change change one.regs }) else one) ∷ after) cpu ≡ regs_in (one ∷ rest) cpu
  past_first of cpu one rest after true is_same other later =
      let differs : (one.number == cpu) ≡ false = differ one.number of cpu is_same other in
      rw (differs, later) refl
    where
      differ : (number of cpu : ℕ) → (number == of) ≡ true → of ≢ cpu → (number == cpu) ≡ false
      differ number of cpu is_same other = grind (arith, nat_tests, other)
  past_first of cpu one rest after false is_same other later = rw later refl

  -- of another one
  pub regs_in-set_other : (of cpu : ℕ) (list : List Processor) → of ≢ cpu → regs_in (set_in of change list) cpu ≡ regs_in list cpu
  regs_in-set_other of cpu [] other = refl
  regs_in-set_other of cpu (one ∷ rest) other =
      past_first of cpu one rest (set_in of change rest) (one.number == of) refl other (regs_in-set_other of cpu rest other)

-- the same, by the event
pub regs_after-set : (happened : Event) (of cpu : ℕ) (change : RegChange) (processors : List Processor) (before : Option Regs)
    → happened ≡ event.Set of change → of ≡ cpu → regs_in processors cpu ≡ before
    → option_map (with_change change) before ≡ regs_in (processors_after happened processors) cpu
regs_after-set happened of cpu change processors before is_set own was =
    rw (is_set, ← own, ← was) (rw (← own) (sym (regs_in-set change of processors)))

pub regs_after-other : (happened : Event) (of cpu : ℕ) (change : RegChange) (processors : List Processor) (before : Option Regs)
    → happened ≡ event.Set of change → of ≢ cpu → regs_in processors cpu ≡ before
    → before ≡ regs_in (processors_after happened processors) cpu
regs_after-other happened of cpu change processors before is_set other was =
    sym (rw is_set (regs_in-set_other change of cpu processors other ∙ was))

-- the processors, each changed where it has the number
pub set_in-map : (cpu : ℕ) (change : RegChange) (list : List Processor) → map (changed_processor cpu change) list ≡ set_in cpu change list
set_in-map cpu change [] = refl
set_in-map cpu change (one ∷ rest) = ap (λ (others : List Processor). changed_processor cpu change one ∷ others) (set_in-map cpu change rest)
