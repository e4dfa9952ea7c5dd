-- The answer to an accepted event, from the moment before it. The forms of answers are our own; what they say is defined
-- where each definition that they cite has its source.
use Rattle.std.specs.Prelude.{◌≡◌, ◌⊎◌, Some, List}
use Rattle.paging_model.specs.Listings.{AreAreas}
use Rattle.paging_model.specs.Memory.{Memory}
use Rattle.paging_model.specs.Registers.{root_of, settings_of}
use Rattle.paging_model.specs.TableUses.{IsTooLarge, IsWithinLimits}
use Rattle.paging_model.specs.declared.registers.Machine.{Machine}
use Rattle.paging_model.specs.declared.registers.Regs.{Regs}
use Rattle.paging_model.specs.declared.spaces.Area.{Area}
use Rattle.history_model.specs.Asking.{answer_to_ask}
use Rattle.history_model.specs.History.{History, memory, machine, regs}
use Rattle.history_model.specs.StaleTranslations.{AreFindings, scope}
use Rattle.history_model.specs.declared.answers.Answer.{Answer}
use Rattle.history_model.specs.declared.answers.Answer.TheVariants.{Nothing, Asked, Listed, ListTooLarge, Verdict}
use Rattle.history_model.specs.declared.caches.Finding.{Finding}
use Rattle.history_model.specs.declared.events.Event.{Event}
use Rattle.history_model.specs.declared.events.Event.TheVariants as event

-- the areas of a space, unless it has too many tables or pages
abbrev pub AnswersList : Memory → Machine → Regs → Answer → Type 0
AnswersList memory machine known answer =
    (IsTooLarge memory (settings_of known machine) (root_of known machine) × (answer ≡ ListTooLarge))
    ⊎ (IsWithinLimits memory (settings_of known machine) (root_of known machine)
    × ((areas : List Area) × AreAreas memory machine known areas × (answer ≡ Listed areas)))

-- the answer to an event is this one
abbrev pub Answers : History → Event → Answer → Type 0
Answers history (event.Ask cpu access pointer) answer =
    (known : Regs) × (regs history cpu ≡ Some known)
    × (answer ≡ Asked (answer_to_ask (memory history) (machine history) known access pointer))
Answers history (event.List cpu) answer =
    (known : Regs) × (regs history cpu ≡ Some known) × AnswersList (memory history) (machine history) known answer
Answers history (event.Point all) answer =
    (findings : List Finding) × AreFindings history (scope history all) findings × (answer ≡ Verdict findings)
Answers history _ answer = answer ≡ Nothing
