-- A job has one outcome, and what was written of it at a fault begins that.
use Rattle.std.proofs.Common.{◌≡◌, ℕ, List, [], ◌++◌, refl, ap, sym, ◌∙◌, subst, inl, inr, append-nil}
use Rattle.history_model.specs.History.{History}
use Rattle.history_model.specs.declared.answers.Answer.{Answer}
use Rattle.rights.specs.Ends.{AddsPrefix, AddsTruncated, after_lines, Ends}
use Rattle.rights.specs.HandledLines.{Handles}
use Rattle.rights.specs.Jobs.{Job, answers, one_line, summary, IsOutcomeOf, HasReached}
use Rattle.rights.specs.Summaries.{SaysSummary}
use Rattle.rights.specs.Outcome.{Outcome}
use Rattle.rights.specs.Run.{IsOutcome, job_of}
use Rattle.rights.specs.declared.statuses.Status.TheVariants.{ReadFailed, WriteFailed, OutOfMemory}
use Rattle.rights.proofs.HandledLines.{handles-rest, none-handles}
use Rattle.rights.proofs.Outcomes.{BeginsWith, log-begins, log_once}
use Rattle.rights.proofs.PutPieces.{Pieces, prefix-after, prefix-more, truncated-after, truncated-more}

-- a log has one summary
summary_once : (start : History) (log : List ℕ) (one other : Outcome) → SaysSummary start log one → SaysSummary start log other → one ≡ other
summary_once start log one other is was =
    let part = is.part in
    let same : was.part.lines ≡ part.lines ++ [] =
    sym (append-nil was.part.lines) ∙ (ap (λ rest. was.part.lines ++ rest) (sym was.all) ∙ (sym was.part.log_is ∙ (part.log_is ∙ ap (λ rest. part.lines ++ rest) is.all))) in
    let follows = handles-rest part.lines [] start part.moment was.part.moment part.answers was.part.answers part.handles
    (subst (λ (lines : List (List ℕ)). Handles start lines was.part.answers was.part.moment) same was.part.handles) in
    let none = none-handles part.moment was.part.moment follows.others follows.handles in
    let answers : was.part.answers ≡ part.answers =
    follows.all_are ∙ (ap (λ (some : List Answer). part.answers ++ some) none.0 ∙ append-nil part.answers) in
    let lines : was.part.lines ≡ part.lines = same ∙ append-nil part.lines in
    is.outcome_is ∙ sym (rw (lines, answers, none.1) at was.outcome_is)

-- a job has one outcome
pub job_once : (job : Job) (one other : Outcome) → IsOutcomeOf job one → IsOutcomeOf job other → one ≡ other
job_once (one_line line status) one other is was = is ∙ sym was
job_once (answers start more bytes) one other is was = log_once start more bytes one other is was
job_once (summary start log) one other is was = summary_once start log one other is was

pub outcome_once : (core log : List ℕ) (one other : Outcome) → IsOutcome core log one → IsOutcome core log other → one ≡ other
outcome_once core log one other is was = job_once (job_of core log) one other is was

-- an outcome begins with what was handled and with what comes next
pub job-begins : (job : Job) (lines next : List (List ℕ)) (outcome : Outcome) → IsOutcomeOf job outcome → HasReached job lines next → BeginsWith outcome lines next
job-begins (one_line line status) lines next outcome is reaches = rw (reaches.0, reaches.1) ([], ap (λ (o : Outcome). o.lines) is)
job-begins (answers start more bytes) lines next outcome is reaches = rw reaches.1 (log-begins start more bytes outcome reaches.0 next is reaches.2)
job-begins (summary start log) lines next outcome is reaches = elim reaches.1 [
  | inl none ↦ rw (reaches.0, none) (outcome.lines, refl)
  | inr said ↦
      let same : outcome ≡ said.0 = summary_once start log outcome said.0 is said.1 in
      rw (reaches.0, said.2) ([], ap (λ (o : Outcome). o.lines) same ∙ sym (append-nil said.0.lines))
]

-- what was put where a put failed, and where memory ran out
pub failed-begins : (job : Job) (before now : Pieces) (outcome : Outcome) → Ends job before now WriteFailed → IsOutcomeOf job outcome → AddsTruncated before now outcome.lines
failed-begins job before now outcome ends is =
    let begins = job-begins job ends.lines ends.next outcome is ends.reaches in
    rw begins.1 (truncated-after before now ends.lines (ends.next ++ begins.0) (truncated-more (after_lines before ends.lines) now ends.next begins.0 ends.adds))

pub memory-begins : (job : Job) (before now : Pieces) (outcome : Outcome) → Ends job before now OutOfMemory → IsOutcomeOf job outcome → AddsPrefix before now outcome.lines
memory-begins job before now outcome ends is =
    let begins = job-begins job ends.lines ends.next outcome is ends.reaches in
    rw begins.1 (prefix-after before now ends.lines (ends.next ++ begins.0) (prefix-more (after_lines before ends.lines) now ends.next begins.0 ends.adds))

pub read-begins : (job : Job) (before now : Pieces) (outcome : Outcome) → Ends job before now ReadFailed → IsOutcomeOf job outcome → AddsPrefix before now outcome.lines
read-begins job before now outcome ends is =
    let begins = job-begins job ends.lines ends.next outcome is ends.reaches in
    record {
      whole = ends.lines;
      more = ends.next ++ begins.0;
      lines_are = begins.1;
      adds = ends.adds.1;
    }
