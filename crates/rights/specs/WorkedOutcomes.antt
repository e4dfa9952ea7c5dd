-- Examples that pin how a log ends: worked out by hand from the formats.
use Rattle.std.specs.Prelude.{◌≡◌, ℕ, Bool, true, false, List, [], ◌∷◌, ◌++◌, length, None, Some, Ok, Err, codes}
use Rattle.std.specs.List.{list_any}
use Rattle.edit_log.specs.Log.{rest_of}
use Rattle.edit_log.specs.LogLine.{event_of}
use Rattle.edit_log.specs.declared.line_forms.LineFault.TheVariants.{TooLong}
use Rattle.history_model.specs.History.{History}
use Rattle.history_model.specs.declared.answers.Answer.TheVariants.{Nothing, Asked, Listed, ListTooLarge, Verdict}
use Rattle.history_model.specs.declared.caches.Finding.{Finding}
use Rattle.rights.specs.HandledLines.{HandledPart, lines_read, limit_refusal, refusal_after}
use Rattle.rights.specs.Outcome.{Outcome, has_findings, end_status, SaysAll, SaysRefusal}
use Rattle.rights.specs.declared.statuses.Status.TheVariants.{Answered, Stale, LogRefused}

-- a stale translation of page 0
abbrev pub page_0 : Finding
page_0 = record { cpu = 0; pcid = 0; page = 0; frame = 0x5000; excess = 255 }

-- a point with findings makes the log stale, wherever it stands; no other answer does
pub record OfStatuses : Type 0 where
  pub one : end_status (list_any has_findings (Verdict (page_0 ∷ []) ∷ [])) ≡ Stale
  pub one_then_none : end_status (list_any has_findings (Verdict (page_0 ∷ []) ∷ Verdict [] ∷ Nothing ∷ [])) ≡ Stale
  pub none_then_one : end_status (list_any has_findings (Verdict [] ∷ Verdict (page_0 ∷ []) ∷ [])) ≡ Stale
  pub none : end_status (list_any has_findings (Verdict [] ∷ Nothing ∷ Asked (Ok 0x5000) ∷ Listed [] ∷ ListTooLarge ∷ []))
      ≡ Answered
  pub no_answer : end_status (list_any has_findings []) ≡ Answered
  pub to_the_end : (start : History) (more : Bool) (bytes : List ℕ) (part : HandledPart start more bytes) (outcome : Outcome)
      → part.answers ≡ Verdict (page_0 ∷ []) ∷ Verdict [] ∷ [] → SaysAll part outcome → outcome.status ≡ Stale
  pub refusal_after_one : (start : History) (more : Bool) (bytes : List ℕ) (part : HandledPart start more bytes)
      (outcome : Outcome) → part.answers ≡ Verdict (page_0 ∷ []) ∷ [] → SaysRefusal part outcome
      → outcome.status ≡ LogRefused

-- a log that has more bytes than are read: the line that goes past them may be too long already, past 8,300 bytes
pub record OfLongLogs : Type 0 where
  pub lines_that_end : lines_read true (49 ∷ 10 ∷ 50 ∷ []) ≡ (49 ∷ []) ∷ []
  pub all_lines : lines_read false (49 ∷ 10 ∷ 50 ∷ []) ≡ (49 ∷ []) ∷ (50 ∷ []) ∷ []
  pub within : (bytes : List ℕ) (number : ℕ) → limit_refusal false bytes number ≡ None
  pub nothing_left : limit_refusal true [] 1 ≡ Some (codes "log refused: too long" ++ 10 ∷ [])
  pub at_the_limit : (start : History) (bytes : List ℕ) (part : HandledPart start true bytes)
      → part.rest ≡ [] → length (rest_of bytes) ≡ 8300
      → refusal_after part ≡ Some (codes "log refused: too long" ++ 10 ∷ [])
  pub past_the_limit : (start : History) (bytes : List ℕ) (part : HandledPart start true bytes)
      → part.rest ≡ [] → length part.lines ≡ 2 → length (rest_of bytes) ≡ 8301
      → refusal_after part ≡ Some (codes "line 3 refused: too long" ++ 10 ∷ [])
  pub long_line : (start : History) (bytes line : List ℕ) (others : List (List ℕ)) (part : HandledPart start true bytes)
      → part.rest ≡ line ∷ others → length part.lines ≡ 2 → event_of line ≡ Err TooLong
      → refusal_after part ≡ Some (codes "line 3 refused: too long" ++ 10 ∷ [])
  pub nothing_more : (start : History) (bytes : List ℕ) (part : HandledPart start false bytes)
      → part.rest ≡ [] → refusal_after part ≡ None
