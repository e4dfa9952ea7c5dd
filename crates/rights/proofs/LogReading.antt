-- The lines that a reader takes of a log, and what is handled with them.
use Rattle.std.proofs.Common.{◌≡◌, ◌≢◌, ℕ, ◌+◌, ◌<◌, ◌≤◌, List, [], ◌∷◌, ◌++◌, refl, arith, ap, sym, ◌∙◌, subst, inl, inr, length, length-append, append-nil, append_assoc}
use Rattle.std.proofs.lemmas.Bool.Decides.{nat_tests}
use Rattle.std.proofs.lemmas.List.Concat.{flat_map-append}
use Rattle.std.proofs.lemmas.List.Folds.{list_any-append}
use Rattle.std.specs.List.{list_any}
use Rattle.std.specs.Prelude.{Bool, true, false, ◌||◌, not, Some, None, Err, ◌⊎◌}
use Rattle.audit_core.specs.Standing.{Holding, StandsFor}
use Rattle.audit_core.specs.Stepping.{AcceptsEvent}
use Rattle.edit_log.specs.Reading.{AllSkipped, Gives, Passes, Reading, Refuses, Splits, Takes, left_of}
use Rattle.edit_log.specs.declared.line_forms.LineFault.{LineFault}
use Rattle.edit_log.specs.declared.line_forms.LineFault.TheVariants as line_fault
use Rattle.history_model.specs.Answering.{Answers}
use Rattle.history_model.specs.History.{History, after_event, begun, next, time}
use Rattle.edit_log.specs.Log.{lines_of, rest_of}
use Rattle.edit_log.specs.LogLine.{line_limit}
use Rattle.history_model.specs.Refusals.{refusal}
use Rattle.rights_report.specs.AnswerLines.{answer_lines}
use Rattle.rights_report.specs.LogRefusals.{log_refusal_line}
use Rattle.rights_report.specs.FixedLines.{log_too_long_line}
use Rattle.history_model.specs.declared.answers.Answer.{Answer}
use Rattle.history_model.specs.declared.events.Event.{Event}
use Rattle.history_model.specs.declared.events.Event.TheVariants as event
use Rattle.rights_report.specs.declared.refusals.Cause.{Cause}
use Rattle.rights_report.specs.declared.refusals.Cause.TheVariants.{TooLong, Step}
use Rattle.history_model.specs.declared.faults.StepFault.{StepFault}
use Rattle.history_model.specs.declared.faults.StepFault.TheVariants as step
use Rattle.rights.specs.Ends.{Adds, AddsPrefix, AddsTruncated, after_lines, Ends}
use Rattle.rights.specs.HandledLines.{fault_cause, HandledPart, Handles, limit_refusal, refusal_after}
use Rattle.rights.specs.Jobs.{answers}
use Rattle.rights.specs.Outcome.{has_findings, output_of}
use Rattle.rights.specs.Partway.{fed_all, IsGoing, IsPartway, IsReady, MayFollow, Partway}
use Rattle.rights.specs.Stopping.{EndsOrStops, HandlesEvent, LacksLine, PutsLines, ReadsNext, stop_of_event}
use Rattle.rights.specs.declared.statuses.Status.TheVariants.{LogRefused, OutOfMemory}
use Rattle.rights.specs.declared.stopping.Stop.{Stop}
use Rattle.rights.specs.declared.stopping.Stop.TheVariants.{Usage, LongCore, Core, Line, LongLog, Read, Put, Memory}
use Rattle.rights.proofs.Following.{gives_all, refuses_all, takes_all, takes_left}
use Rattle.rights.proofs.HandledLines.{answers-line, handles-append, skips}
use Rattle.rights.proofs.LineEnds.{lines_at_most, rest_after}
use Rattle.rights.proofs.PutPieces.{adds-more, Pieces, prefix-none}

-- each line has a byte at least
pub few : (complete : Bool) (old rest : List ℕ) (lines : List (List ℕ)) → Splits complete old rest lines → length lines + length rest ≤ length old
few complete old rest lines splits =
    let bytes : length old ≡ length splits.prefix + length rest = ap length splits.bytes ∙ length-append splits.prefix rest in
    let count : length (lines_of splits.prefix) ≡ length lines = ap length splits.split in
    omega (arith, bytes, count, lines_at_most splits.prefix)

-- what stands after the last line's end stays, until the last line is taken
rest_kept : (complete : Bool) (old rest : List ℕ) (lines : List (List ℕ)) → complete ≡ false → Splits complete old rest lines → rest_of old ≡ rest_of rest
rest_kept complete old rest lines going splits =
    elim splits.ends [
      | inl whole ↦ ap rest_of splits.bytes ∙ rest_after splits.prefix rest (whole ∙ sym splits.split)
      | inr all ↦ absurd (let both : true ≡ false = sym all.0 ∙ going in cc)
    ]

-- an event takes one moment at most
pub time-after : (happened : Event) (moment : History) → time (after_event happened moment) ≤ time moment + 1
time-after (event.Machine machine) (begun start) = omega arith
time-after (event.Cpu cpu given) (begun start) = omega arith
time-after (event.Write at bytes) (begun start) = omega arith
time-after (event.Set cpu change) (begun start) = omega arith
time-after (event.Invlpg cpu address) (begun start) = omega arith
time-after (event.Invpcid cpu kind pcid address) (begun start) = omega arith
time-after (event.Ask cpu access pointer) (begun start) = omega arith
time-after (event.List cpu) (begun start) = omega arith
time-after (event.Point all) (begun start) = omega arith
time-after (event.Machine machine) (next before happened) = omega arith
time-after (event.Cpu cpu given) (next before happened) = omega arith
time-after (event.Write at bytes) (next before happened) = omega arith
time-after (event.Set cpu change) (next before happened) = omega arith
time-after (event.Invlpg cpu address) (next before happened) = omega arith
time-after (event.Invpcid cpu kind pcid address) (next before happened) = omega arith
time-after (event.Ask cpu access pointer) (next before happened) = omega arith
time-after (event.List cpu) (next before happened) = omega arith
time-after (event.Point all) (next before happened) = omega arith

more_of : (more complete : Bool) → complete ≡ not more → complete ≡ false → more ≡ true
more_of true complete is going = refl
more_of false complete is going = let both : true ≡ false = sym is ∙ going in absurd (cc)

-- lines were taken
pub shorter : (old new : Reading) (happened : Event) → Gives old new happened → length new.rest < length old.rest
shorter old new happened gives =
    omega (arith, few old.finished old.rest new.rest _ gives.takes.splits, length-append gives.skipped (gives.line ∷ []))

taken_count : (more : Bool) (log : List ℕ) (old new : Reading) (lines : List (List ℕ)) → IsGoing more log old → (takes : Takes old new lines)
    → new.taken ≡ old.taken + length lines
taken_count more log old new lines going takes =
    takes.count ∙ omega (arith, few old.finished old.rest new.rest lines takes.splits, going.few, going.limit)

going-takes : (more : Bool) (log : List ℕ) (old new : Reading) (lines : List (List ℕ)) → IsGoing more log old → Takes old new lines → IsGoing more log new
going-takes more log old new lines going takes = record {
  unrefused = takes.going;
  complete = takes.finished ∙ going.complete;
  after = λ unfinished.
      let before : old.finished ≡ false = sym takes.finished ∙ unfinished in
      going.after before ∙ rest_kept old.finished old.rest new.rest lines before takes.splits;
  few = let count = takes.count in omega (arith, count, few old.finished old.rest new.rest lines takes.splits, going.few, going.limit);
  limit = going.limit;
}

-- the part with more lines, that are skipped
abbrev skipping : {start : History} {more : Bool} {log : List ℕ} (part : HandledPart start more log) (passed rest : List (List ℕ)) → AllSkipped passed
    → part.rest ≡ passed ++ rest → HandledPart start more log
skipping {start} {more} {log} part passed rest none is = record {
  lines = part.lines ++ passed;
  rest = rest;
  log_is = part.log_is ∙ ap (λ (ls : List (List ℕ)). part.lines ++ ls) is ∙ sym (append_assoc part.lines passed rest);
  answers = part.answers;
  moment = part.moment;
  handles = subst (λ (some : List Answer). Handles start (part.lines ++ passed) some part.moment) (append-nil part.answers)
      (handles-append part.lines passed start part.moment part.moment part.answers [] part.handles (skips passed part.moment none));
}

-- after a part whose output was put, a refusal is left
pub lacks-line : {start : History} {more : Bool} {log : List ℕ} (part : HandledPart start more log) (before now : Pieces) (line : List ℕ)
    → Adds before now (output_of part.answers) → refusal_after part ≡ Some line → LacksLine (answers start more log) before now line LogRefused
lacks-line part before now line adds refuses = record {
  lines = output_of part.answers;
  reaches = (part, refl, inr (inr (line, refuses, refl)));
  outcome_is = (part, inr (record { line = line; refuses = refuses; outcome_is = refl }));
  adds = adds;
}

-- memory ran out after a part whose output was put
pub memory-after : {start : History} {more : Bool} {log : List ℕ} (part : HandledPart start more log) (before now : Pieces)
    → Adds before now (output_of part.answers) → Ends (answers start more log) before now OutOfMemory
memory-after part before now adds = record {
  lines = output_of part.answers;
  next = [];
  reaches = (part, refl, inl refl);
  adds = rw adds (prefix-none (after_lines before (output_of part.answers)) []);
}

-- a line that gives no event is refused
line_number : (more : Bool) (log : List ℕ) (old new : Reading) (fault : LineFault) (lines : List (List ℕ)) → IsGoing more log old
    → (refuses : Refuses old new fault) → old.taken ≡ length lines → new.taken ≡ length (lines ++ refuses.skipped) + 1
line_number more log old new fault lines going refuses count =
    refuses.count
    ∙ omega (arith, count, length-append lines refuses.skipped, few old.finished old.rest new.rest refuses.skipped refuses.splits, going.few, going.limit)

limit_long : (more : Bool) (log rest : List ℕ) (number : ℕ) → more ≡ true → rest_of log ≡ rest → line_limit < length rest
    → limit_refusal more log number ≡ Some (log_refusal_line number TooLong)
limit_long more log rest number is rest_is long = rw (is, rest_is) (grind (arith, nat_tests))

pub limit_short : (more : Bool) (log rest : List ℕ) (number : ℕ) → more ≡ true → rest_of log ≡ rest → length rest ≤ line_limit
    → limit_refusal more log number ≡ Some log_too_long_line
limit_short more log rest number is rest_is short = rw (is, rest_is) (grind (arith, nat_tests))

too_long_cause : (fault : LineFault) (cause : Cause) → fault ≡ line_fault.TooLong → fault_cause fault ≡ Some cause → cause ≡ TooLong
too_long_cause fault cause is cause_is = let both : Some TooLong ≡ Some cause = rw is at cause_is in cc

refused-line : (start : History) (more : Bool) (log : List ℕ) (holding : Holding) (before now : Pieces) (old new : Reading) (stale : Bool) (cause : Cause) (fault : LineFault)
    → fault_cause fault ≡ Some cause → Partway start more log holding before now old stale → IsGoing more log old → Refuses old new fault
    → LacksLine (answers start more log) before now (log_refusal_line new.taken cause) LogRefused
refused-line start more log holding before now old new stale cause fault cause_is so_far going refuses =
    let number = line_number more log old new fault so_far.part.lines going refuses so_far.count in
    elim refuses.why [
      | inl faulty ↦
          lacks-line (skipping so_far.part refuses.skipped (faulty.line ∷ faulty.next.more) faulty.next.skips (so_far.left ∙ faulty.next.left)) before now _ so_far.adds
          (rw (faulty.means, cause_is, number) refl)
      | inr endless ↦
          lacks-line (skipping so_far.part refuses.skipped [] endless.skips (so_far.left ∙ endless.left ∙ sym (append-nil refuses.skipped))) before now _ so_far.adds
          (rw (number, too_long_cause fault cause endless.is cause_is)
          (limit_long more log (rest_of old.rest) (length (so_far.part.lines ++ refuses.skipped) + 1) (more_of more old.finished going.complete endless.unfinished)
          (going.after endless.unfinished) endless.long))
    ]

pub stops-line : (start : History) (more : Bool) (log unread : List ℕ) (holding : Holding) (before now : Pieces) (old new : Reading) (stale : Bool) (stop : Stop)
    → IsPartway start more log unread holding before now old stale → ReadsNext old new (Err stop)
    → EndsOrStops (answers start more log) before now (Err stop)
stops-line start more log unread holding before now old new stale (Line number why) so_far reads =
    rw reads.0 (refused-line start more log holding before now (fed_all old unread more) (fed_all new unread more) stale why reads.1.0 reads.1.1 so_far.partway so_far.going
    (refuses_all old new unread more reads.1.0 so_far.may_follow reads.1.2))
stops-line start more log unread holding before now old new stale Memory so_far reads = memory-after so_far.partway.part before now so_far.partway.adds
stops-line start more log unread holding before now old new stale Usage so_far reads = absurd reads
stops-line start more log unread holding before now old new stale LongCore so_far reads = absurd reads
stops-line start more log unread holding before now old new stale (Core fault) so_far reads = absurd reads
stops-line start more log unread holding before now old new stale LongLog so_far reads = absurd reads
stops-line start more log unread holding before now old new stale Read so_far reads = absurd reads
stops-line start more log unread holding before now old new stale Put so_far reads = absurd reads

-- the part up to the line of the next event
abbrev up_to : {start : History} {more : Bool} {log : List ℕ} (part : HandledPart start more log) (old new : Reading) (happened : Event) → part.rest ≡ left_of old
    → Gives old new happened → HandledPart start more log
up_to part old new happened left gives = skipping part gives.skipped (gives.line ∷ left_of new) gives.skips (left ∙ gives.left)

event_number : (more : Bool) (log : List ℕ) (old new : Reading) (happened : Event) (lines : List (List ℕ)) → IsGoing more log old → (gives : Gives old new happened)
    → old.taken ≡ length lines → new.taken ≡ length (lines ++ gives.skipped) + 1
event_number more log old new happened lines going gives count =
    taken_count more log old new (gives.skipped ++ gives.line ∷ []) going gives.takes
    ∙ omega (arith, count, length-append lines gives.skipped, length-append gives.skipped (gives.line ∷ []))

-- an event is refused, or memory ran out
pub is_refusal : (number : ℕ) (why : StepFault) → (why ≡ step.Memory) ⊎ ((why ≢ step.Memory) × (stop_of_event number why ≡ Line number (Step why)))
is_refusal number step.LateState = inr ((λ is. cc), refl)
is_refusal number (step.DoubleProcessor cpu) = inr ((λ is. cc), refl)
is_refusal number step.TooManyProcessors = inr ((λ is. cc), refl)
is_refusal number (step.NoProcessor cpu) = inr ((λ is. cc), refl)
is_refusal number step.BadType = inr ((λ is. cc), refl)
is_refusal number step.BadPcid = inr ((λ is. cc), refl)
is_refusal number step.NotCanonical = inr ((λ is. cc), refl)
is_refusal number (step.Illegal rule) = inr ((λ is. cc), refl)
is_refusal number (step.Unknown a) = inr ((λ is. cc), refl)
is_refusal number (step.Crosses a) = inr ((λ is. cc), refl)
is_refusal number step.OverlayFull = inr ((λ is. cc), refl)
is_refusal number step.Memory = inl refl

stops-event : (start : History) (more : Bool) (log : List ℕ) (holding : Holding) (before now : Pieces) (old new : Reading) (stale : Bool) (happened : Event) (why : StepFault)
    → (so_far : Partway start more log holding before now old stale) → IsGoing more log old → Gives old new happened
    → (why ≢ step.Memory → refusal so_far.part.moment happened ≡ Some why)
    → EndsOrStops (answers start more log) before now (Err (stop_of_event new.taken why))
stops-event start more log holding before now old new stale happened why so_far going gives refusal_is =
    elim (is_refusal new.taken why) [
      | inl memory ↦ rw memory (memory-after so_far.part before now so_far.adds)
      | inr known ↦
          let number = event_number more log old new happened so_far.part.lines going gives so_far.count in
          rw known.1 (lacks-line (up_to so_far.part old new happened so_far.left gives) before now _ so_far.adds
          (rw (gives.means, refusal_is known.0, number) refl))
    ]

-- the answer to an event wasn't put as a whole
stops-put : (start : History) (more : Bool) (log : List ℕ) (holding : Holding) (before now put : Pieces) (old new : Reading) (stale : Bool) (happened : Event) (answer : Answer)
    (stop : Stop) → (so_far : Partway start more log holding before now old stale) → Gives old new happened → refusal so_far.part.moment happened ≡ None
    → Answers so_far.part.moment happened answer → PutsLines now put (answer_lines answer) (Err stop) → EndsOrStops (answers start more log) before put (Err stop)
stops-put start more log holding before now put old new stale happened answer Put so_far gives accepted is puts = record {
  lines = output_of so_far.part.answers;
  next = answer_lines answer;
  reaches = (
    up_to so_far.part old new happened so_far.left gives,
    refl,
    inr (inl (answer, (happened, gives.means, record { accepted = accepted; answers = is }), refl)),
  );
  adds = subst (λ (o : Pieces). AddsTruncated o put (answer_lines answer)) so_far.adds puts;
}
stops-put start more log holding before now put old new stale happened answer Memory so_far gives accepted is puts = record {
  lines = output_of so_far.part.answers;
  next = answer_lines answer;
  reaches = (
    up_to so_far.part old new happened so_far.left gives,
    refl,
    inr (inl (answer, (happened, gives.means, record { accepted = accepted; answers = is }), refl)),
  );
  adds = subst (λ (o : Pieces). AddsPrefix o put (answer_lines answer)) so_far.adds puts;
}
stops-put start more log holding before now put old new stale happened answer Usage so_far gives accepted is puts = absurd puts
stops-put start more log holding before now put old new stale happened answer LongCore so_far gives accepted is puts = absurd puts
stops-put start more log holding before now put old new stale happened answer (Core fault) so_far gives accepted is puts = absurd puts
stops-put start more log holding before now put old new stale happened answer (Line number why) so_far gives accepted is puts = absurd puts
stops-put start more log holding before now put old new stale happened answer LongLog so_far gives accepted is puts = absurd puts
stops-put start more log holding before now put old new stale happened answer Read so_far gives accepted is puts = absurd puts

-- the answer to an event was put
partway-answer : (start : History) (more : Bool) (log : List ℕ) (holding later : Holding) (before now put : Pieces) (old new : Reading) (stale : Bool) (happened : Event)
    (answer : Answer) → (so_far : Partway start more log holding before now old stale) → IsGoing more log old → (gives : Gives old new happened)
    → refusal so_far.part.moment happened ≡ None → Answers so_far.part.moment happened answer → StandsFor later (after_event happened so_far.part.moment)
    → Adds now put (answer_lines answer) → Partway start more log later before put new (stale || has_findings answer)
partway-answer start more log holding later before now put old new stale happened answer so_far going gives accepted is stands adds =
    let before_line = up_to so_far.part old new happened so_far.left gives in
    record {
      part = record {
        lines = before_line.lines ++ gives.line ∷ [];
        rest = left_of new;
        log_is = before_line.log_is ∙ sym (append_assoc before_line.lines (gives.line ∷ []) (left_of new));
        answers = so_far.part.answers ++ answer ∷ [];
        moment = after_event happened so_far.part.moment;
        handles = handles-append before_line.lines (gives.line ∷ []) start so_far.part.moment (after_event happened so_far.part.moment) so_far.part.answers (answer ∷ [])
            before_line.handles (answers-line so_far.part.moment gives.line happened answer gives.means (record { accepted = accepted; answers = is }));
      };
      stands = stands;
      adds = adds-more before now put (output_of so_far.part.answers) (answer_lines answer) so_far.adds adds
          ∙ ap (λ (ls : List (List ℕ)). after_lines before ls) (output-more so_far.part.answers answer);
      left = refl;
      count = event_number more log old new happened so_far.part.lines going gives so_far.count
          ∙ sym (length-append (so_far.part.lines ++ gives.skipped) (gives.line ∷ []));
      stale_is = findings-more so_far.part.answers answer stale so_far.stale_is;
    }
  where
    output-more : (some : List Answer) (one : Answer) → output_of some ++ answer_lines one ≡ output_of (some ++ one ∷ [])
    output-more some one = sym (flat_map-append answer_lines some (one ∷ []) ∙ ap (λ (ls : List (List ℕ)). output_of some ++ ls) (append-nil (answer_lines one)))

    findings-more : (some : List Answer) (one : Answer) (was : Bool) → was ≡ list_any has_findings some
        → (was || has_findings one) ≡ list_any has_findings (some ++ one ∷ [])
    findings-more some one was is = rw is (sym (list_any-append has_findings some (one ∷ []) ∙ ap (λ (b : Bool). list_any has_findings some || b) (last (has_findings one))))
      where
        last : (b : Bool) → (b || false) ≡ b
        last true = refl
        last false = refl

-- what may follow a reader may follow it later
follows : (old new : Reading) (unread : List ℕ) (more : Bool) → new.finished ≡ old.finished → MayFollow old unread more → MayFollow new unread more
follows old new unread more same may = λ complete. may (sym same ∙ complete)

-- an event was answered
pub handled-event : (start : History) (more : Bool) (log unread : List ℕ) (holding later : Holding) (before now put : Pieces) (old new : Reading) (stale found : Bool) (happened : Event)
    (answer : Answer) → IsPartway start more log unread holding before now old stale → Gives old new happened → AcceptsEvent StandsFor holding later happened answer
    → Adds now put (answer_lines answer) → found ≡ has_findings answer → IsPartway start more log unread later before put new (stale || found)
handled-event start more log unread holding later before now put old new stale found happened answer so_far gives accepts adds found_is =
    let all = gives_all old new unread more happened so_far.may_follow gives in
    let stands = so_far.partway.stands in
    record {
      may_follow = follows old new unread more gives.takes.finished so_far.may_follow;
      partway = rw found_is (partway-answer start more log holding later before now put (fed_all old unread more) (fed_all new unread more) stale happened answer
          so_far.partway so_far.going all (accepts.unrefused so_far.partway.part.moment stands) (accepts.answered so_far.partway.part.moment stands)
          (accepts.stands so_far.partway.part.moment stands) adds);
      going = going-takes more log (fed_all old unread more) (fed_all new unread more) _ so_far.going all.takes;
    }

-- lines without an event were taken
pub handled-rest : (start : History) (more : Bool) (log unread : List ℕ) (holding : Holding) (before now : Pieces) (old new : Reading) (stale : Bool)
    → IsPartway start more log unread holding before now old stale → Passes old new → IsPartway start more log unread holding before now new stale
handled-rest start more log unread holding before now old new stale so_far passes =
    let takes = takes_all old new unread more passes.skipped so_far.may_follow passes.takes in
    let part = so_far.partway.part in
    record {
      may_follow = follows old new unread more passes.takes.finished so_far.may_follow;
      partway = record {
        part = skipping part passes.skipped (left_of (fed_all new unread more)) passes.skips
            (so_far.partway.left ∙ takes_left (fed_all old unread more) (fed_all new unread more) passes.skipped refl takes);
        stands = so_far.partway.stands;
        adds = so_far.partway.adds;
        left = refl;
        count = taken_count more log (fed_all old unread more) (fed_all new unread more) passes.skipped so_far.going takes
            ∙ ap (λ (count : ℕ). count + length passes.skipped) so_far.partway.count ∙ sym (length-append part.lines passes.skipped);
        stale_is = so_far.partway.stale_is;
      };
      going = going-takes more log (fed_all old unread more) (fed_all new unread more) passes.skipped so_far.going takes;
    }

pub ready : (old new : Reading) → Passes old new → IsReady new
ready old new passes = record { unrefused = passes.takes.going; none = passes.none; no_end = passes.no_end; short = passes.short }

-- an event is refused, or its answer wasn't put
pub stops-step : (start : History) (more : Bool) (log unread : List ℕ) (holding later : Holding) (before now : Pieces) (old new : Reading) (stale : Bool) (happened : Event)
    (number : ℕ) (stop : Stop) → IsPartway start more log unread holding before now old stale → Gives old new happened → number ≡ new.taken
    → HandlesEvent holding later happened number (Err stop) → EndsOrStops (answers start more log) before now (Err stop)
stops-step start more log unread holding later before now old new stale happened number stop so_far gives number_is handles =
    rw (handles.1, number_is)
    (stops-event start more log holding before now (fed_all old unread more) (fed_all new unread more) stale happened handles.0 so_far.partway so_far.going
    (gives_all old new unread more happened so_far.may_follow gives) (λ known. (handles.2 known).reason so_far.partway.part.moment so_far.partway.stands))

pub stops-answer : (start : History) (more : Bool) (log unread : List ℕ) (holding later : Holding) (before now put : Pieces) (old new : Reading) (stale : Bool) (happened : Event)
    (answer : Answer) (stop : Stop) → IsPartway start more log unread holding before now old stale → Gives old new happened
    → AcceptsEvent StandsFor holding later happened answer → PutsLines now put (answer_lines answer) (Err stop) → EndsOrStops (answers start more log) before put (Err stop)
stops-answer start more log unread holding later before now put old new stale happened answer stop so_far gives accepts puts =
    stops-put start more log holding before now put (fed_all old unread more) (fed_all new unread more) stale happened answer stop so_far.partway
    (gives_all old new unread more happened so_far.may_follow gives) (accepts.unrefused so_far.partway.part.moment so_far.partway.stands)
    (accepts.answered so_far.partway.part.moment so_far.partway.stands) puts

-- the session takes one moment at most for an event, and the reader a byte at least
pub time-kept : (moment : History) (holding later : Holding) (old new : Reading) (happened : Event) (answer : Answer) (limit : ℕ) → StandsFor holding moment
    → Gives old new happened → AcceptsEvent StandsFor holding later happened answer
    → holding.happened + length old.rest ≤ limit → later.happened + length new.rest ≤ limit
time-kept moment holding later old new happened answer limit stands gives accepts few_left =
    let before_it = stands.has_all.time_is in
    let after_it = (accepts.stands moment stands).has_all.time_is in
    omega (arith, before_it, after_it, time-after happened moment, few_left, shorter old new happened gives)

pub passes-shorter : (old new : Reading) → Passes old new → length new.rest ≤ length old.rest
passes-shorter old new passes = omega (arith, few old.finished old.rest new.rest passes.skipped passes.takes.splits)
