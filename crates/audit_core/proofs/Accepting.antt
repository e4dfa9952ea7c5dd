-- A session goes on to stand for a list of accepted events.
use Rattle.elf_core.specs.Cores.{IsConsistent}
use Rattle.elf_core.specs.declared.core_file.Core.{Core}
use Rattle.history_model.specs.History.{begun}
use Rattle.history_model.specs.Refusals.{begins, goes_on}
use Rattle.history_model.specs.declared.answers.Answer.{Answer}
use Rattle.history_model.specs.declared.events.Event.{Event}
use Rattle.audit_core.specs.Standing.{Holding, HasAllOf, StandsFor, core_start}
use Rattle.audit_core.specs.Stepping.{AcceptsEvent}

-- before the first event
pub stands_first : (core : Core) (holding : Holding) → IsConsistent core → HasAllOf holding (begun (core_start core))
    → StandsFor holding (begun (core_start core))
stands_first core holding consistent has_all =
    record { core = core; consistent = consistent; accepted = begins; has_all = has_all }

-- after an event that is accepted
pub accepts_further : (old new : Holding) (happened : Event) (answer : Answer)
    → AcceptsEvent HasAllOf old new happened answer → AcceptsEvent StandsFor old new happened answer
accepts_further old new happened answer accepts = record {
  unrefused = λ moment stands. accepts.unrefused moment stands.has_all;
  answered = λ moment stands. accepts.answered moment stands.has_all;
  stands = λ moment stands. record {
    core = stands.core;
    consistent = stands.consistent;
    accepted = goes_on happened stands.accepted (accepts.unrefused moment stands.has_all);
    has_all = accepts.stands moment stands.has_all;
  };
}
