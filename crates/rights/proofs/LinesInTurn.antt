-- What a log says by its handled lines is what it says line by line.
use Rattle.std.proofs.Common.{◌≡◌, ℕ, ◌+◌, List, [], ◌∷◌, ◌++◌, refl, arith, ap, sym, ◌∙◌, subst, append_assoc, length, inl, inr}
use Rattle.std.specs.List.{list_any}
use Rattle.std.specs.Prelude.{Bool, true, false, Option, Some, None, option_map, Result, Ok, Err, ◌||◌}
use Rattle.edit_log.specs.LogLine.{event_of}
use Rattle.edit_log.specs.declared.line_forms.LineFault.{LineFault}
use Rattle.edit_log.specs.declared.line_forms.LineFault.TheVariants as line_fault
use Rattle.history_model.specs.History.{History, after_event}
use Rattle.history_model.specs.Refusals.{refusal}
use Rattle.history_model.specs.declared.answers.Answer.{Answer}
use Rattle.history_model.specs.declared.answers.Answer.TheVariants as answer
use Rattle.history_model.specs.declared.events.Event.{Event}
use Rattle.history_model.specs.declared.faults.StepFault.{StepFault}
use Rattle.rights.specs.HandledLines.{cause_of, HandledPart, Handles, HandlesLine, limit_refusal, refusal_in}
use Rattle.rights.specs.LineByLine.{before_the_rest, outcome_at_end, refused_by, SaysEvent, SaysLine, SaysLineByLine, SaysLines, status_with}
use Rattle.rights.specs.Outcome.{end_status, has_findings, Outcome, output_of, SaysLog}
use Rattle.rights.specs.declared.statuses.Status.{Status}
use Rattle.rights.specs.declared.statuses.Status.TheVariants.{LogRefused}
use Rattle.rights.proofs.HandledLines.{line-handles, none-handles}
use Rattle.rights_report.specs.AnswerLines.{answer_lines}
use Rattle.rights_report.specs.LogRefusals.{log_refusal_line}
use Rattle.rights_report.specs.declared.refusals.Cause.TheVariants.{TooLong, Syntax, Step}

-- the lines of answers come before the rest
abbrev after_answers : List Answer → Outcome → Outcome
after_answers [] rest = rest
after_answers (one ∷ others) rest = before_the_rest one (after_answers others rest)

-- no answer changes a refusal
refusal-stays : (one : Answer) → status_with one LogRefused ≡ LogRefused
refusal-stays answer.Nothing = refl
refusal-stays (answer.Asked asked) = refl
refusal-stays (answer.Listed areas) = refl
refusal-stays answer.ListTooLarge = refl
refusal-stays (answer.Verdict []) = refl
refusal-stays (answer.Verdict (finding ∷ others)) = refl

refused-after : (answers : List Answer) (line : List ℕ)
    → after_answers answers (refused_by line) ≡ record { lines = output_of answers ++ line ∷ []; status = LogRefused }
refused-after [] line = refl
refused-after (one ∷ others) line =
    ap (λ (o : Outcome). before_the_rest one o) (refused-after others line)
    ∙ ap (λ (status : Status). record { lines = answer_lines one ++ (output_of others ++ line ∷ []); status = status }) (refusal-stays one)
    ∙ ap (λ (lines : List (List ℕ)). record { lines = lines; status = LogRefused }) (sym (append_assoc (answer_lines one) (output_of others) (line ∷ [])))

-- a point with findings makes the end stale, and no other answer does
stale-stays : (one : Answer) (stale : Bool) → status_with one (end_status stale) ≡ end_status (has_findings one || stale)
stale-stays answer.Nothing stale = refl
stale-stays (answer.Asked asked) stale = refl
stale-stays (answer.Listed areas) stale = refl
stale-stays answer.ListTooLarge stale = refl
stale-stays (answer.Verdict []) stale = refl
stale-stays (answer.Verdict (finding ∷ others)) true = refl
stale-stays (answer.Verdict (finding ∷ others)) false = refl

ended-after : (answers : List Answer)
    → after_answers answers (outcome_at_end None) ≡ record { lines = output_of answers; status = end_status (list_any has_findings answers) }
ended-after [] = refl
ended-after (one ∷ others) =
    ap (λ (o : Outcome). before_the_rest one o) (ended-after others)
    ∙ ap (λ (status : Status). record { lines = output_of (one ∷ others); status = status }) (stale-stays one (list_any has_findings others))

-- no line is left
says-none : (end : ℕ → Outcome) (moment : History) (before : ℕ) → SaysLines end moment before [] (end before)
unfolding SaysLines
says-none end moment before = refl

-- the first line by itself
says-line : (end : ℕ → Outcome) (moment : History) (before : ℕ) (line : List ℕ) (rest : List (List ℕ)) (outcome : Outcome)
    → SaysLine (λ later said. SaysLines end later (before + 1) rest said) moment (before + 1) (event_of line) outcome
    → SaysLines end moment before (line ∷ rest) outcome
unfolding SaysLines
says-line end moment before line rest outcome says = says

-- handled lines, and what is said after them
handled-line : (end : ℕ → Outcome) (rest more : List (List ℕ)) (moment mid : History) (number : ℕ) (spelled : Result (Option Event) LineFault) (answers : List Answer)
    (left : Outcome)
    → ((next : History) (some : List Answer) → Handles next rest some mid → SaysLines end next number (rest ++ more) (after_answers some left))
    → HandlesLine (λ next some. Handles next rest some mid) moment spelled answers
    → SaysLine (λ later said. SaysLines end later number (rest ++ more) said) moment number spelled (after_answers answers left)
handled-line end rest more moment mid number (Ok None) answers left go handles = go moment answers handles
handled-line end rest more moment mid number (Ok (Some happened)) answers left go handles =
    rw handles.2.accepted (
      handles.0,
      after_answers handles.1 left,
      handles.2.answers,
      go (after_event happened moment) handles.1 handles.3,
      ap (λ (some : List Answer). after_answers some left) handles.4,
    )
handled-line end rest more moment mid number (Err why) answers left go handles = absurd handles

says-after : (end : ℕ → Outcome) (lines more : List (List ℕ)) (moment mid : History) (before : ℕ) (answers : List Answer) (left : Outcome)
    → Handles moment lines answers mid → SaysLines end mid (before + length lines) more left
    → SaysLines end moment before (lines ++ more) (after_answers answers left)
says-after end [] more moment mid before answers left handles says =
    let none = none-handles moment mid answers handles in
    let count : before + 0 ≡ before = omega arith in
    let same : SaysLines end moment before more left = rw (none.1, count) at says in
    subst (λ (some : List Answer). SaysLines end moment before more (after_answers some left)) (sym none.0) same
says-after end (line ∷ rest) more moment mid before answers left handles says =
    let count : before + length (line ∷ rest) ≡ before + 1 + length rest = omega arith in
    let later_says : SaysLines end mid (before + 1 + length rest) more left = rw count at says in
    says-line end moment before line (rest ++ more) (after_answers answers left)
    (handled-line end rest more moment mid (before + 1) (event_of line) answers left
    (λ next some handled. says-after end rest more next mid (before + 1) some left handled later_says) (line-handles moment mid line rest answers handles))

-- a refused line is the last
event-refused : (Rest : History → Outcome → Type 0) (moment : History) (number : ℕ) (happened : Event) (why : Option StepFault) (text : List ℕ)
    → option_map (log_refusal_line number) (option_map Step why) ≡ Some text → SaysEvent Rest moment number happened why (refused_by text)
event-refused Rest moment number happened None text refuses = absurd (cc)
event-refused Rest moment number happened (Some fault) text refuses =
    let same : log_refusal_line number (Step fault) ≡ text = cc in
    ap refused_by (sym same)

line-refused : (Rest : History → Outcome → Type 0) (moment : History) (number : ℕ) (spelled : Result (Option Event) LineFault) (text : List ℕ)
    → option_map (log_refusal_line number) (cause_of moment spelled) ≡ Some text → SaysLine Rest moment number spelled (refused_by text)
line-refused Rest moment number (Ok None) text refuses = absurd (cc)
line-refused Rest moment number (Ok (Some happened)) text refuses =
    event-refused Rest moment number happened (refusal moment happened) text refuses
line-refused Rest moment number (Err line_fault.TooLong) text refuses =
    let same : log_refusal_line number TooLong ≡ text = cc in
    (TooLong, refl, ap refused_by (sym same))
line-refused Rest moment number (Err line_fault.Syntax) text refuses =
    let same : log_refusal_line number Syntax ≡ text = cc in
    (Syntax, refl, ap refused_by (sym same))
line-refused Rest moment number (Err line_fault.Memory) text refuses = absurd (cc)

-- what is said after the last line, of which there are so many before
abbrev end_of_log : Bool → List ℕ → ℕ → Outcome
end_of_log more bytes before = outcome_at_end (limit_refusal more bytes (before + 1))

rest-refused : (more : Bool) (bytes : List ℕ) (moment : History) (before : ℕ) (rest : List (List ℕ)) (text : List ℕ)
    → refusal_in moment (before + 1) (limit_refusal more bytes (before + 1)) rest ≡ Some text
    → SaysLines (end_of_log more bytes) moment before rest (refused_by text)
rest-refused more bytes moment before [] text refuses =
    subst (λ (o : Outcome). SaysLines (end_of_log more bytes) moment before [] o) (ap outcome_at_end refuses)
    (says-none (end_of_log more bytes) moment before)
rest-refused more bytes moment before (line ∷ rest) text refuses =
    says-line (end_of_log more bytes) moment before line rest (refused_by text)
    (line-refused (λ later said. SaysLines (end_of_log more bytes) later (before + 1) rest said) moment (before + 1) (event_of line) text refuses)

rest-ended : (more : Bool) (bytes : List ℕ) (moment : History) (before : ℕ) (rest : List (List ℕ)) → rest ≡ [] → more ≡ false
    → SaysLines (end_of_log more bytes) moment before rest (outcome_at_end None)
rest-ended true bytes moment before rest all within = absurd (cc)
rest-ended false bytes moment before [] all within = says-none (end_of_log false bytes) moment before
rest-ended false bytes moment before (line ∷ rest) all within = absurd (cc)

-- a part of a log was handled, and this is said after it
part-says : {start : History} {more : Bool} {bytes : List ℕ} (part : HandledPart start more bytes) (left outcome : Outcome)
    → SaysLines (end_of_log more bytes) part.moment (length part.lines) part.rest left → after_answers part.answers left ≡ outcome
    → SaysLineByLine start more bytes outcome
part-says {start} {more} {bytes} part left outcome says is =
    let count : length part.lines ≡ 0 + length part.lines = omega arith in
    let later_says : SaysLines (end_of_log more bytes) part.moment (0 + length part.lines) part.rest left =
    subst (λ (n : ℕ). SaysLines (end_of_log more bytes) part.moment n part.rest left) count says in
    let all = says-after (end_of_log more bytes) part.lines part.rest start part.moment 0 part.answers left part.handles later_says in
    subst (λ (lines : List (List ℕ)). SaysLines (end_of_log more bytes) start 0 lines outcome) (sym part.log_is)
    (subst (λ (o : Outcome). SaysLines (end_of_log more bytes) start 0 (part.lines ++ part.rest) o) is all)

pub line-by-line : (start : History) (more : Bool) (bytes : List ℕ) (outcome : Outcome) → SaysLog start more bytes outcome
    → SaysLineByLine start more bytes outcome
line-by-line start more bytes outcome says =
    let part = says.0 in
    elim says.1 [
      | inl all ↦
          part-says part (outcome_at_end None) outcome (rest-ended more bytes part.moment (length part.lines) part.rest all.all all.within)
          (ended-after part.answers ∙ sym all.outcome_is)
      | inr refused ↦
          part-says part (refused_by refused.line) outcome
          (rest-refused more bytes part.moment (length part.lines) part.rest refused.line refused.refuses)
          (refused-after part.answers refused.line ∙ sym refused.outcome_is)
    ]
