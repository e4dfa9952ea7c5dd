-- An event has one answer.
use Rattle.std.proofs.Common.{◌≡◌, ℕ, inl, inr, List, Some, sym, ap, ◌∙◌, subst}
use Rattle.paging_model.specs.Memory.{Memory}
use Rattle.paging_model.specs.Registers.{root_of, settings_of}
use Rattle.paging_model.specs.declared.registers.Machine.{Machine}
use Rattle.paging_model.specs.declared.registers.Regs.{Regs}
use Rattle.paging_model.specs.declared.spaces.Area.{Area}
use Rattle.paging_laws.proofs.OneListing.{areas_are_one}
use Rattle.paging_laws.proofs.Pigeonholes.{too_large_within_limits}
use Rattle.history_model.specs.Answering.{Answers, AnswersList}
use Rattle.history_model.specs.Asking.{answer_to_ask}
use Rattle.history_model.specs.History.{History, machine, memory, regs}
use Rattle.history_model.specs.StaleTranslations.{scope}
use Rattle.history_model.specs.declared.answers.Answer.{Answer}
use Rattle.history_model.specs.declared.answers.Answer.TheVariants.{Asked, Listed, Verdict}
use Rattle.history_model.specs.declared.events.Event.{Event}
use Rattle.history_model.specs.declared.events.Event.TheVariants as event
use Rattle.history_laws.proofs.VerdictLaws.{findings_are_one}

-- a space is listed, or too large, and has one list
lists_are_one : (known : Memory) (on : Machine) (given : Regs) (one other : Answer)
    → AnswersList known on given one → AnswersList known on given other → one ≡ other
lists_are_one known on given one other (inl a) (inl b) = a.1 ∙ sym b.1
lists_are_one known on given one other (inl a) (inr b) =
    absurd (too_large_within_limits known (settings_of given on) (root_of given on) a.0 b.0)
lists_are_one known on given one other (inr a) (inl b) =
    absurd (too_large_within_limits known (settings_of given on) (root_of given on) b.0 a.0)
lists_are_one known on given one other (inr a) (inr b) =
    a.1.2 ∙ ap (λ (areas : List Area). Listed areas) (areas_are_one known on given a.1.0 b.1.0 a.1.1 b.1.1) ∙ sym b.1.2

-- a processor has one state of its registers
same_regs : (history : History) (cpu : ℕ) (one other : Regs) → regs history cpu ≡ Some one → regs history cpu ≡ Some other → one ≡ other
same_regs history cpu one other is was = let both : Some one ≡ Some other = sym is ∙ was in cc

pub answers_are_one : (history : History) (happened : Event) (one other : Answer) → Answers history happened one → Answers history happened other → one ≡ other
answers_are_one history (event.Machine machine) one other a b = a ∙ sym b
answers_are_one history (event.Cpu cpu given) one other a b = a ∙ sym b
answers_are_one history (event.Write at bytes) one other a b = a ∙ sym b
answers_are_one history (event.Set cpu change) one other a b = a ∙ sym b
answers_are_one history (event.Invlpg cpu address) one other a b = a ∙ sym b
answers_are_one history (event.Invpcid cpu kind pcid address) one other a b = a ∙ sym b
answers_are_one history (event.Ask cpu access pointer) one other a b =
    a.2 ∙ ap (λ (known : Regs). Asked (answer_to_ask (memory history) (machine history) known access pointer)) (same_regs history cpu a.0 b.0 a.1 b.1)
    ∙ sym b.2
answers_are_one history (event.List cpu) one other a b =
    lists_are_one (memory history) (machine history) b.0 one other
    (subst (λ (known : Regs). AnswersList (memory history) (machine history) known one) (same_regs history cpu a.0 b.0 a.1 b.1) a.2) b.2
answers_are_one history (event.Point all) one other a b =
    a.2 ∙ ap Verdict (findings_are_one history (scope history all) a.0 b.0 a.1 b.1) ∙ sym b.2
