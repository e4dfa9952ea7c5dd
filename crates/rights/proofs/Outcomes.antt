-- How an outcome goes on after a part of its log, and that a log has one outcome.
use Rattle.std.proofs.Common.{◌≡◌, ℕ, ◌+◌, List, [], ◌∷◌, ◌++◌, refl, arith, ap, sym, ◌∙◌, subst, append_assoc, append-nil, length, length-append, inl, inr}
use Rattle.std.proofs.lemmas.List.Concat.{flat_map-append}
use Rattle.std.specs.List.{list_any}
use Rattle.std.specs.Prelude.{◌⊎◌, Bool, false, Option, Some, None}
use Rattle.history_model.specs.History.{History}
use Rattle.rights_report.specs.AnswerLines.{answer_lines}
use Rattle.history_model.specs.declared.answers.Answer.{Answer}
use Rattle.rights.specs.HandledLines.{AnswersNext, HandledPart, Handles, limit_refusal, refusal_in}
use Rattle.rights.specs.Outcome.{end_status, has_findings, Outcome, output_of, SaysLog, SaysNext}
use Rattle.rights.specs.declared.statuses.Status.TheVariants.{LogRefused}
use Rattle.rights.proofs.HandledLines.{first-answer, handles-accepted, handles-rest, none-handles}

-- the log ends after these answers
pub record EndsAll (more : Bool) (rest : List (List ℕ)) (answers : List Answer) (outcome : Outcome) : Type 0 where
  pub all : rest ≡ []
  pub within : more ≡ false
  pub outcome_is : outcome ≡ record { lines = output_of answers; status = end_status (list_any has_findings answers) }

-- what comes after these answers is refused
pub record EndsRefused (moment : History) (number : ℕ) (at_end : Option (List ℕ)) (rest : List (List ℕ)) (answers : List Answer) (outcome : Outcome) : Type 0 where
  pub line : List ℕ
  pub refuses : refusal_in moment number at_end rest ≡ Some line
  pub outcome_is : outcome ≡ record { lines = output_of answers ++ line ∷ []; status = LogRefused }

-- an outcome goes on after a part of its log
pub record GoesOn {start : History} {more : Bool} {bytes : List ℕ} (part : HandledPart start more bytes) (outcome : Outcome) : Type 0 where
  pub lines : List (List ℕ)
  pub rest : List (List ℕ)
  pub rest_is : part.rest ≡ lines ++ rest
  pub others : List Answer
  pub moment : History
  pub handles : Handles part.moment lines others moment
  pub number : ℕ
  pub count : number ≡ length part.lines + length lines
  pub ends : EndsAll more rest (part.answers ++ others) outcome
      ⊎ EndsRefused moment (number + 1) (limit_refusal more bytes (number + 1)) rest (part.answers ++ others) outcome

-- two ways to cut one list
record IsLonger (one rest other left : List (List ℕ)) : Type 0 where
  pub between : List (List ℕ)
  pub other_is : other ≡ one ++ between
  pub rest_is : rest ≡ between ++ left

record IsShorter (one rest other left : List (List ℕ)) : Type 0 where
  pub line : List ℕ
  pub between : List (List ℕ)
  pub one_is : one ≡ other ++ line ∷ between
  pub left_is : left ≡ line ∷ between ++ rest

compare : (one rest other left : List (List ℕ)) → one ++ rest ≡ other ++ left → IsLonger one rest other left ⊎ IsShorter one rest other left
compare [] rest other left is = inl (record { between = other; other_is = refl; rest_is = is })
compare (line ∷ one) rest [] left is = inr (record { line = line; between = one; one_is = refl; left_is = sym is })
compare (line ∷ one) rest (first ∷ other) left is =
    let same : line ≡ first = cc in
    let tails : one ++ rest ≡ other ++ left = cc in
    elim (compare one rest other left tails) [
      | inl longer ↦ inl (record {
        between = longer.between;
        other_is = ap (λ (l : List ℕ). l ∷ other) (sym same) ∙ ap (λ (ls : List (List ℕ)). line ∷ ls) longer.other_is;
        rest_is = longer.rest_is;
      })
      | inr shorter ↦ inr (record {
        line = shorter.line;
        between = shorter.between;
        one_is = ap (λ (l : List ℕ). l ∷ one) same ∙ ap (λ (ls : List (List ℕ)). first ∷ ls) shorter.one_is;
        left_is = shorter.left_is;
      })
    ]

-- a line that is handled isn't refused
not_refused : (moment later : History) (number : ℕ) (at_end : Option (List ℕ)) (line text : List ℕ) (handled rest : List (List ℕ)) (answers : List Answer)
    → Handles moment (line ∷ handled) answers later → refusal_in moment number at_end (line ∷ rest) ≡ Some text → ⊥
not_refused moment later number at_end line text handled rest answers handles refuses =
    let accepted = handles-accepted moment later line handled answers handles in
    let none : None ≡ Some text = rw accepted at refuses in
    cc

-- an outcome goes on after each part of its log
part-goes_on : {start : History} {more : Bool} {bytes : List ℕ} (part other : HandledPart start more bytes) (outcome : Outcome)
    → EndsAll more other.rest other.answers outcome
    ⊎ EndsRefused other.moment (length other.lines + 1) (limit_refusal more bytes (length other.lines + 1)) other.rest other.answers outcome
    → IsLonger part.lines part.rest other.lines other.rest → GoesOn part outcome
part-goes_on {start} {more} {bytes} part other outcome ends longer =
    let then = handles-rest part.lines longer.between start part.moment other.moment part.answers other.answers part.handles
    (subst (λ (ls : List (List ℕ)). Handles start ls other.answers other.moment) longer.other_is other.handles) in
    record {
      lines = longer.between;
      rest = other.rest;
      rest_is = longer.rest_is;
      others = then.others;
      moment = other.moment;
      handles = then.handles;
      number = length other.lines;
      count = ap length longer.other_is ∙ length-append part.lines longer.between;
      ends = subst (λ (some : List Answer). EndsAll more other.rest some outcome
          ⊎ EndsRefused other.moment (length other.lines + 1) (limit_refusal more bytes (length other.lines + 1)) other.rest some outcome)
          then.all_are ends;
    }

no_part : {start : History} {more : Bool} {bytes : List ℕ} (part other : HandledPart start more bytes) (outcome : Outcome)
    → EndsAll more other.rest other.answers outcome
    ⊎ EndsRefused other.moment (length other.lines + 1) (limit_refusal more bytes (length other.lines + 1)) other.rest other.answers outcome
    → IsShorter part.lines part.rest other.lines other.rest → ⊥
no_part {start} {more} {bytes} part other outcome ends shorter =
    let then = handles-rest other.lines (shorter.line ∷ shorter.between) start other.moment part.moment other.answers part.answers other.handles
    (subst (λ (ls : List (List ℕ)). Handles start ls part.answers part.moment) shorter.one_is part.handles) in
    elim ends [
      | inl all ↦ let none : [] ≡ shorter.line ∷ shorter.between ++ part.rest = sym all.all ∙ shorter.left_is in cc
      | inr refused ↦
          not_refused other.moment part.moment (length other.lines + 1) (limit_refusal more bytes (length other.lines + 1)) shorter.line refused.line shorter.between
          (shorter.between ++ part.rest) then.others then.handles
          (subst (λ (ls : List (List ℕ)). refusal_in other.moment (length other.lines + 1) (limit_refusal more bytes (length other.lines + 1)) ls ≡ Some refused.line)
          shorter.left_is refused.refuses)
    ]

pub goes_on : {start : History} {more : Bool} {bytes : List ℕ} (part : HandledPart start more bytes) (outcome : Outcome) → SaysLog start more bytes outcome → GoesOn part outcome
goes_on {start} {more} {bytes} part outcome says =
    let ends : EndsAll more says.0.rest says.0.answers outcome
    ⊎ EndsRefused says.0.moment (length says.0.lines + 1) (limit_refusal more bytes (length says.0.lines + 1)) says.0.rest says.0.answers outcome =
    elim says.1 [
      | inl all ↦ inl (record { all = all.all; within = all.within; outcome_is = all.outcome_is })
      | inr refused ↦ inr (record { line = refused.line; refuses = refused.refuses; outcome_is = refused.outcome_is })
    ] in
    elim (compare part.lines part.rest says.0.lines says.0.rest (sym part.log_is ∙ says.0.log_is)) [
      | inl longer ↦ part-goes_on part says.0 outcome ends longer
      | inr shorter ↦ absurd (no_part part says.0 outcome ends shorter)
    ]

-- after a part that is the whole log
whole_once : {start : History} {more : Bool} {bytes : List ℕ} (part : HandledPart start more bytes) (one other : Outcome) (lines rest : List (List ℕ)) (others : List Answer)
    (later : History) (number : ℕ) → EndsAll more part.rest part.answers one → part.rest ≡ lines ++ rest → Handles part.moment lines others later
    → EndsAll more rest (part.answers ++ others) other
    ⊎ EndsRefused later (number + 1) (limit_refusal more bytes (number + 1)) rest (part.answers ++ others) other
    → one ≡ other
whole_once {start} {more} {bytes} part one other [] [] others later number is rest_is handles ends =
    let none = none-handles part.moment later others handles in
    let answers_are : part.answers ++ others ≡ part.answers = ap (λ (some : List Answer). part.answers ++ some) none.0 ∙ append-nil part.answers in
    elim ends [
      | inl all ↦ is.outcome_is ∙ sym (rw answers_are at all.outcome_is)
      | inr refused ↦ let never : None ≡ Some refused.line = rw is.within at refused.refuses in absurd cc
    ]
whole_once part one other [] (line ∷ rest) others later number is rest_is handles ends = absurd (let never : [] ≡ line ∷ rest = sym is.all ∙ rest_is in cc)
whole_once part one other (line ∷ lines) rest others later number is rest_is handles ends = absurd (let never : [] ≡ line ∷ lines ++ rest = sym is.all ∙ rest_is in cc)

-- after a part that a refusal ends
refused_once : {start : History} {more : Bool} {bytes : List ℕ} (part : HandledPart start more bytes) (one other : Outcome) (lines rest : List (List ℕ)) (others : List Answer)
    (later : History) (number : ℕ) → EndsRefused part.moment (length part.lines + 1) (limit_refusal more bytes (length part.lines + 1)) part.rest part.answers one
    → part.rest ≡ lines ++ rest → number ≡ length part.lines + length lines → Handles part.moment lines others later
    → EndsAll more rest (part.answers ++ others) other
    ⊎ EndsRefused later (number + 1) (limit_refusal more bytes (number + 1)) rest (part.answers ++ others) other
    → one ≡ other
refused_once {start} {more} {bytes} part one other [] rest others later number is rest_is count handles ends =
    let none = none-handles part.moment later others handles in
    let answers_are : part.answers ++ others ≡ part.answers = ap (λ (some : List Answer). part.answers ++ some) none.0 ∙ append-nil part.answers in
    let number_is : number ≡ length part.lines = omega (arith, count) in
    elim ends [
      | inl all ↦
          let end : refusal_in part.moment (length part.lines + 1) (limit_refusal more bytes (length part.lines + 1)) [] ≡ Some is.line = rw (rest_is ∙ all.all) at is.refuses in
          let never : None ≡ Some is.line = rw all.within at end in
          absurd cc
      | inr refused ↦
          let first : refusal_in part.moment (length part.lines + 1) (limit_refusal more bytes (length part.lines + 1)) rest ≡ Some is.line = rw rest_is at is.refuses in
          let second : refusal_in part.moment (length part.lines + 1) (limit_refusal more bytes (length part.lines + 1)) rest ≡ Some refused.line =
          rw (number_is, none.1) at refused.refuses in
          let both : Some is.line ≡ Some refused.line = sym first ∙ second in
          let line_is : is.line ≡ refused.line = cc in
          is.outcome_is
          ∙ ap (λ (line : List ℕ). record { lines = output_of part.answers ++ line ∷ []; status = LogRefused }) line_is
          ∙ sym (rw answers_are at refused.outcome_is)
    ]
refused_once {start} {more} {bytes} part one other (line ∷ lines) rest others later number is rest_is count handles ends =
    absurd (not_refused part.moment later (length part.lines + 1) (limit_refusal more bytes (length part.lines + 1)) line is.line lines (lines ++ rest) others handles
    (rw rest_is at is.refuses))

-- a log has one outcome
pub log_once : (start : History) (more : Bool) (bytes : List ℕ) (one other : Outcome) → SaysLog start more bytes one → SaysLog start more bytes other → one ≡ other
log_once start more bytes one other says said =
    let part = says.0 in
    let then = goes_on part other said in
    elim says.1 [
      | inl all ↦
          whole_once part one other then.lines then.rest then.others then.moment then.number (record { all = all.all; within = all.within; outcome_is = all.outcome_is })
          then.rest_is then.handles then.ends
      | inr refused ↦
          refused_once part one other then.lines then.rest then.others then.moment then.number
          (record { line = refused.line; refuses = refused.refuses; outcome_is = refused.outcome_is }) then.rest_is then.count then.handles then.ends
    ]

-- the lines of an outcome begin with these
abbrev pub BeginsWith : Outcome → List (List ℕ) → List (List ℕ) → Type 0
BeginsWith outcome lines next = (more : List (List ℕ)) × (outcome.lines ≡ lines ++ (next ++ more))

-- with the answers that were given, and those after them
answers-begin : (answers others : List Answer) (line : List (List ℕ)) (outcome : Outcome) → outcome.lines ≡ output_of (answers ++ others) ++ line
    → BeginsWith outcome (output_of answers) (output_of others)
answers-begin answers others line outcome is =
    (line, is ∙ ap (λ (ls : List (List ℕ)). ls ++ line) (flat_map-append answer_lines answers others) ∙ append_assoc (output_of answers) (output_of others) line)

ends-begin : {more : Bool} {rest : List (List ℕ)} {moment : History} {number : ℕ} {at_end : Option (List ℕ)} (answers others : List Answer) (outcome : Outcome)
    → EndsAll more rest (answers ++ others) outcome ⊎ EndsRefused moment number at_end rest (answers ++ others) outcome
    → BeginsWith outcome (output_of answers) (output_of others)
ends-begin answers others outcome ends =
    elim ends [
      | inl all ↦ answers-begin answers others [] outcome (ap (λ (o : Outcome). o.lines) all.outcome_is ∙ sym (append-nil (output_of (answers ++ others))))
      | inr refused ↦ answers-begin answers others (refused.line ∷ []) outcome (ap (λ (o : Outcome). o.lines) refused.outcome_is)
    ]

answer-begins : {more : Bool} (moment later : History) {number : ℕ} {at_end : Option (List ℕ)} (answers others : List Answer) (outcome : Outcome) (answer : Answer)
    (all lines rest : List (List ℕ)) → AnswersNext moment all answer → all ≡ lines ++ rest → Handles moment lines others later
    → EndsAll more rest (answers ++ others) outcome ⊎ EndsRefused later number at_end rest (answers ++ others) outcome
    → BeginsWith outcome (output_of answers) (answer_lines answer)
answer-begins moment later answers others outcome answer [] lines rest is all_is handles ends = absurd is
answer-begins moment later {number = number} {at_end = at_end} answers others outcome answer (first ∷ all) [] rest is all_is handles ends =
    elim ends [
      | inl whole ↦ absurd (let never : first ∷ all ≡ [] = all_is ∙ whole.all in cc)
      | inr refused ↦
          let none = none-handles moment later others handles in
          let refuses : refusal_in moment number at_end (first ∷ all) ≡ Some refused.line = rw (none.1, sym all_is) at refused.refuses in
          let never : None ≡ Some refused.line = rw (is.1, is.2.accepted) at refuses in
          absurd cc
    ]
answer-begins moment later answers others outcome answer (first ∷ all) (line ∷ lines) rest is all_is handles ends =
    let same : line ≡ first = cc in
    let head = first-answer moment later first lines others is.0 answer is.1 is.2 (rw same at handles) in
    let begins = ends-begin answers others outcome ends in (
      output_of head.0 ++ begins.0,
      begins.1 ∙ ap (λ (some : List Answer). output_of answers ++ (output_of some ++ begins.0)) head.1
          ∙ ap (λ (ls : List (List ℕ)). output_of answers ++ ls) (append_assoc (answer_lines answer) (output_of head.0) begins.0),
    )

refusal-begins : (more : Bool) (bytes : List ℕ) (moment later : History) (first number : ℕ) (answers others : List Answer) (outcome : Outcome) (text : List ℕ)
    (all lines rest : List (List ℕ)) → refusal_in moment (first + 1) (limit_refusal more bytes (first + 1)) all ≡ Some text → all ≡ lines ++ rest
    → number ≡ first + length lines → Handles moment lines others later
    → EndsAll more rest (answers ++ others) outcome ⊎ EndsRefused later (number + 1) (limit_refusal more bytes (number + 1)) rest (answers ++ others) outcome
    → BeginsWith outcome (output_of answers) (text ∷ [])
refusal-begins more bytes moment later first number answers others outcome text all [] rest refuses all_is count handles ends =
    let none = none-handles moment later others handles in
    let answers_are : answers ++ others ≡ answers = ap (λ (some : List Answer). answers ++ some) none.0 ∙ append-nil answers in
    let number_is : number ≡ first = omega (arith, count) in
    elim ends [
      | inl whole ↦
          let end : refusal_in moment (first + 1) (limit_refusal more bytes (first + 1)) [] ≡ Some text = rw (all_is ∙ whole.all) at refuses in
          let never : None ≡ Some text = rw whole.within at end in
          absurd cc
      | inr refused ↦
          let one : refusal_in moment (first + 1) (limit_refusal more bytes (first + 1)) rest ≡ Some text = rw all_is at refuses in
          let other : refusal_in moment (first + 1) (limit_refusal more bytes (first + 1)) rest ≡ Some refused.line = rw (number_is, none.1) at refused.refuses in
          let both : Some refused.line ≡ Some text = sym other ∙ one in
          let line_is : refused.line ≡ text = cc in (
            [],
            ap (λ (o : Outcome). o.lines) refused.outcome_is ∙ ap (λ (some : List Answer). output_of some ++ refused.line ∷ []) answers_are
                ∙ ap (λ (line : List ℕ). output_of answers ++ line ∷ []) line_is,
          )
    ]
refusal-begins more bytes moment later first number answers others outcome text all (line ∷ lines) rest refuses all_is count handles ends =
    absurd (not_refused moment later (first + 1) (limit_refusal more bytes (first + 1)) line text lines (lines ++ rest) others handles (rw all_is at refuses))

-- the outcome of a log begins with the lines of each part that was handled, and with what is written next
pub log-begins : (start : History) (more : Bool) (bytes : List ℕ) (outcome : Outcome) (part : HandledPart start more bytes) (next : List (List ℕ))
    → SaysLog start more bytes outcome → SaysNext part next → BeginsWith outcome (output_of part.answers) next
log-begins start more bytes outcome part next says is =
    let then = goes_on part outcome says in
    elim is [
      | inl none ↦
          let begins = ends-begin part.answers then.others outcome then.ends in
          rw none (output_of then.others ++ begins.0, begins.1)
      | inr some ↦ elim some [
        | inl answer ↦
            rw answer.2 (answer-begins part.moment then.moment part.answers then.others outcome answer.0 part.rest then.lines then.rest answer.1 then.rest_is then.handles then.ends)
        | inr refusal ↦
            rw refusal.2 (refusal-begins more bytes part.moment then.moment (length part.lines) then.number part.answers then.others outcome refusal.0 part.rest then.lines then.rest refusal.1 then.rest_is
            then.count then.handles then.ends)
      ]
    ]
