-- What an audit finds is the answer to a point, in a moment that the session stands for.
use Rattle.std.proofs.Common.{ℕ, ◌+◌, Bool, List, refl, sym, ap, arith}
use Rattle.history_model.specs.History.{History, after_event}
use Rattle.history_model.specs.StaleTranslations.{AreFindings, scope}
use Rattle.history_model.specs.declared.answers.Answer.TheVariants.{Verdict}
use Rattle.history_model.specs.declared.caches.Finding.{Finding}
use Rattle.history_model.specs.declared.events.Event.TheVariants as event
use Rattle.kept_spaces.specs.Keys.{keys_of}
use Rattle.version_store.specs.Changes.{KeptChanges}
use Rattle.version_store.specs.WrittenChanges.{TellValues}
use Rattle.version_store.proofs.HistoryLaws.{kept_changes-tell}
use Rattle.audit_points.specs.Audits.{StandsForAudit}
use Rattle.audit_core.specs.Standing.{Holding, HasAllOf}
use Rattle.audit_core.specs.Stepping.{AcceptsEvent}
use Rattle.audit_core.proofs.NotingLaws.{hosts_stay}

-- all kept changes tell what each slot held at each time, so also at those from one on
tell-since : (kept : KeptChanges) (moment : History) (since : ℕ) → TellValues kept 0 moment → TellValues kept since moment
tell-since kept moment since tell = record {
  values = λ slot present t aligned after within is. tell.values slot present t aligned (omega arith) within is;
}

stands_for_audit : (holding : Holding) (moment : History) → HasAllOf holding moment
    → StandsForAudit holding.seen holding.kept holding.hosts holding.machine holding.happened moment
stands_for_audit holding moment has = record {
  memory_is = sym has.memory_is;
  kept_since = λ k d within. tell-since holding.kept moment _ (rw has.changes_are (kept_changes-tell moment));
  hosts_are = has.hosts_are;
  processors_are = sym has.processors_are;
  machine_is = sym has.machine_is;
  end_is = sym has.time_is;
}

point-stands : (holding : Holding) (moment : History) (all : Bool) → HasAllOf holding moment
    → HasAllOf (record holding { happened = holding.happened + 1 }) (after_event (event.Point all) moment)
point-stands holding moment all has = record {
  unpoisoned = has.unpoisoned;
  time_is = ap (λ n. n + 1) has.time_is;
  segments_are = has.segments_are;
  pages_are = has.pages_are;
  memory_is = has.memory_is;
  changes_are = has.changes_are;
  stated_is = has.stated_is;
  machine_is = has.machine_is;
  processors_are = has.processors_are;
  hosts_are = hosts_stay moment holding.hosts (event.Point all) has.hosts_are (λ n. refl) (λ n. refl);
  spaces_are = (keys_of holding.spaces, has.spaces_are, refl);
}

pub point-accepted : (holding : Holding) (all : Bool) (findings : List Finding)
    → ((history : History)
    → StandsForAudit holding.seen holding.kept holding.hosts holding.machine holding.happened history
    → AreFindings history (scope history all) findings)
    → AcceptsEvent HasAllOf holding (record holding { happened = holding.happened + 1 }) (event.Point all)
    (Verdict findings)
point-accepted holding all findings finds = record {
  unrefused = λ moment has. refl;
  answered = λ moment has. (findings, finds moment (stands_for_audit holding moment has), refl);
  stands = λ moment has. point-stands holding moment all has;
}
