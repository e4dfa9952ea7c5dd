-- Where a log begins, goes on by a piece and ends, and what was written then.
use Rattle.std.proofs.Common.{◌≡◌, ℕ, ◌+◌, ◌≤◌, List, [], ◌++◌, refl, arith, ap, sym, ◌∙◌, subst, inl, length, append-nil, append_assoc}
use Rattle.std.specs.Prelude.{Bool, true, false, not, None, Err}
use Rattle.audit_core.specs.Standing.{Holding, StandsFor}
use Rattle.edit_log.specs.Log.{lines_of, rest_of, whole_lines}
use Rattle.edit_log.specs.Reading.{left_of, Reading}
use Rattle.history_model.specs.History.{History}
use Rattle.rights.specs.Ends.{AddsOutcome, Ends}
use Rattle.rights.specs.HandledLines.{Handles, lines_read, log_limit}
use Rattle.rights.specs.Jobs.{answers}
use Rattle.rights.specs.LogPieces.{AnswersEnded}
use Rattle.rights.specs.Outcome.{end_status, has_findings, output_of}
use Rattle.rights.specs.Partway.{fed_all, IsPartway, IsReady}
use Rattle.rights.specs.Stopping.{EndsOrStops}
use Rattle.rights.specs.declared.statuses.Status.TheVariants.{ReadFailed}
use Rattle.rights.specs.declared.stopping.Stop.TheVariants.{LongLog, Memory}
use Rattle.rights.proofs.HandledLines.{handles-none}
use Rattle.rights.proofs.LineEnds.{none_whole, rest_alone}
use Rattle.rights.proofs.LogReading.{lacks-line, limit_short, memory-after}
use Rattle.rights.proofs.PutPieces.{adds-none, Pieces}
use Rattle.std.specs.List.{list_any}

-- nothing was read so far
all_left : (more : Bool) (unread : List ℕ) → lines_read more unread ≡ left_of (record { rest = unread; taken = 0; finished = not more; refused = None })
all_left true unread = refl
all_left false unread = refl

pub begins : (start : History) (more : Bool) (unread : List ℕ) (holding : Holding) (before : Pieces) (reading : Reading)
    → reading ≡ record { rest = []; taken = 0; finished = false; refused = None } → StandsFor holding start → length unread ≤ log_limit
    → IsPartway start more unread unread holding before before reading false
begins start more unread holding before reading is stands within = record {
  may_follow = λ finished. absurd (let never : false ≡ true = rw is at finished in cc);
  partway = record {
    part = record { lines = []; rest = lines_read more unread; log_is = refl; answers = []; moment = start; handles = handles-none start };
    stands = stands;
    adds = adds-none before;
    left = rw is (all_left more unread);
    count = rw is refl;
    stale_is = refl;
  };
  going = record {
    unrefused = rw is refl;
    complete = refl;
    after = λ unfinished. rw is refl;
    few = rw is (omega arith);
    limit = within;
  };
}

-- a piece is fed, and the log ends
pub feeds : (start : History) (more : Bool) (log piece unread : List ℕ) (holding : Holding) (before now : Pieces) (old new : Reading) (stale : Bool)
    → new ≡ record { rest = old.rest ++ piece; taken = old.taken; finished = old.finished; refused = old.refused } → old.finished ≡ false
    → IsPartway start more log (piece ++ unread) holding before now old stale → IsPartway start more log unread holding before now new stale
feeds start more log piece unread holding before now old new stale is unfinished so_far =
    let same : fed_all old (piece ++ unread) more ≡ fed_all new unread more =
    rw is (ap (λ (rest : List ℕ). fed_all (record { rest = []; taken = old.taken; finished = false; refused = old.refused }) rest more) (sym (append_assoc old.rest piece unread))) in
    record {
      may_follow = λ finished. absurd (let never : old.finished ≡ true = rw is at finished in let both : false ≡ true = sym unfinished ∙ never in cc);
      partway = rw same at so_far.partway;
      going = rw same at so_far.going;
    }

pub finishes : (start : History) (log : List ℕ) (holding : Holding) (before now : Pieces) (old new : Reading) (stale : Bool)
    → new ≡ record { rest = old.rest; taken = old.taken; finished = true; refused = old.refused }
    → IsPartway start false log [] holding before now old stale → IsPartway start false log [] holding before now new stale
finishes start log holding before now old new stale is so_far = record {
  may_follow = λ finished. (refl, refl);
  partway = rw is so_far.partway;
  going = rw is so_far.going;
}

-- no line is left
pub ends-whole : (start : History) (log : List ℕ) (holding : Holding) (before now : Pieces) (reading : Reading) (stale : Bool)
    → IsPartway start false log [] holding before now reading stale → reading.finished ≡ true → IsReady reading
    → Ends (answers start false log) before now (end_status stale)
ends-whole start log holding before now reading stale so_far finished ready =
    let all : lines_of reading.rest ≡ [] = rw finished at ready.none in
    let none : so_far.partway.part.rest ≡ [] = so_far.partway.left ∙ ap lines_of (append-nil reading.rest) ∙ all in
    by_end stale (record {
      outcome = record { lines = output_of so_far.partway.part.answers; status = end_status (list_any has_findings so_far.partway.part.answers) };
      is = (so_far.partway.part, inl (record { all = none; within = refl; outcome_is = refl }));
      status_is = ap end_status (sym so_far.partway.stale_is);
      adds = so_far.partway.adds;
    })
  where
    by_end : (stale : Bool) → AddsOutcome (answers start false log) before now (end_status stale) → Ends (answers start false log) before now (end_status stale)
    by_end true adds = adds
    by_end false adds = adds

-- all lines that end were answered, and the rest is no whole line
pub record IsAtRest (log : List ℕ) (reading : Reading) (part_rest : List (List ℕ)) : Type 0 where
  pub none : part_rest ≡ []
  pub rest : rest_of log ≡ reading.rest

at_rest : (start : History) (log : List ℕ) (holding : Holding) (before now : Pieces) (reading : Reading) (stale : Bool)
    → (so_far : IsPartway start true log [] holding before now reading stale) → IsReady reading → IsAtRest log reading so_far.partway.part.rest
at_rest start log holding before now reading stale so_far ready = record {
  none = so_far.partway.left ∙ ap whole_lines (append-nil reading.rest) ∙ none_whole reading.rest ready.no_end;
  rest = so_far.going.after refl ∙ ap rest_of (append-nil reading.rest) ∙ rest_alone reading.rest ready.no_end;
}

-- the log is over its limit
pub stops-long : (start : History) (log : List ℕ) (holding : Holding) (before now : Pieces) (reading : Reading) (stale : Bool)
    → IsPartway start true log [] holding before now reading stale → IsReady reading → EndsOrStops (answers start true log) before now (Err LongLog)
stops-long start log holding before now reading stale so_far ready =
    let at = at_rest start log holding before now reading stale so_far ready in
    let part = so_far.partway.part in
    lacks-line part before now _ so_far.partway.adds
    (rw at.none (limit_short true log reading.rest (length part.lines + 1) refl at.rest ready.short))

-- a read failed
pub ends-read : (start : History) (more : Bool) (log unread : List ℕ) (holding : Holding) (before now : Pieces) (reading : Reading) (stale : Bool)
    → IsPartway start more log unread holding before now reading stale → Ends (answers start more log) before now ReadFailed
ends-read start more log unread holding before now reading stale so_far = record {
  lines = output_of so_far.partway.part.answers;
  next = [];
  reaches = (so_far.partway.part, refl, inl refl);
  adds = (refl, so_far.partway.adds);
}

pub answers-ended : (start : History) (log : List ℕ) (holding : Holding) (before now : Pieces) (reading : Reading) (stale : Bool)
    → IsPartway start true log [] holding before now reading stale → IsReady reading → AnswersEnded start log before now
answers-ended start log holding before now reading stale so_far ready =
    let at = at_rest start log holding before now reading stale so_far ready in
    let part = so_far.partway.part in
    record {
      answers = part.answers;
      later = part.moment;
      handles = subst (λ (lines : List (List ℕ)). Handles start lines part.answers part.moment)
          (sym (part.log_is ∙ ap (λ (rest : List (List ℕ)). part.lines ++ rest) at.none ∙ append-nil part.lines)) part.handles;
      adds = so_far.partway.adds;
      short = rw at.rest ready.short;
    }

-- memory ran out
pub ends-memory : (start : History) (more : Bool) (log unread : List ℕ) (holding : Holding) (before now : Pieces) (reading : Reading) (stale : Bool)
    → IsPartway start more log unread holding before now reading stale → EndsOrStops (answers start more log) before now (Err Memory)
ends-memory start more log unread holding before now reading stale so_far = memory-after so_far.partway.part before now so_far.partway.adds
