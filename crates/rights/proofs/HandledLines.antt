-- Lines that are handled: their answers, and the moments to which they lead, are single.
use Rattle.std.proofs.Common.{◌≡◌, ℕ, List, [], ◌∷◌, ◌++◌, refl, ap, sym, ◌∙◌, subst}
use Rattle.std.proofs.lemmas.List.Elements.{recursion_from_All}
use Rattle.std.specs.List.{AllByRecursion}
use Rattle.std.specs.Prelude.{All, Option, Some, None, Result, Ok, Err}
use Rattle.history_laws.proofs.AnswerLaws.{answers_are_one}
use Rattle.history_model.specs.History.{History, after_event}
use Rattle.edit_log.specs.LogLine.{event_of}
use Rattle.history_model.specs.declared.answers.Answer.{Answer}
use Rattle.history_model.specs.declared.events.Event.{Event}
use Rattle.edit_log.specs.declared.line_forms.LineFault.{LineFault}
use Rattle.rights.specs.HandledLines.{cause_of, Handles, HandlesLine, IsAnswered}

-- no line leads nowhere
pub handles-none : (moment : History) → Handles moment [] [] moment
unfolding Handles
handles-none moment = (refl, refl)

pub none-handles : (moment later : History) (answers : List Answer) → Handles moment [] answers later → (answers ≡ []) × (later ≡ moment)
unfolding Handles
none-handles moment later answers handles = handles

-- the first line by itself
pub handles-line : (moment later : History) (line : List ℕ) (rest : List (List ℕ)) (answers : List Answer)
    → HandlesLine (λ next others. Handles next rest others later) moment (event_of line) answers → Handles moment (line ∷ rest) answers later
unfolding Handles
handles-line moment later line rest answers handles = handles

pub line-handles : (moment later : History) (line : List ℕ) (rest : List (List ℕ)) (answers : List Answer)
    → Handles moment (line ∷ rest) answers later → HandlesLine (λ next others. Handles next rest others later) moment (event_of line) answers
unfolding Handles
line-handles moment later line rest answers handles = handles

-- lines after lines
line-append : (rest more : List (List ℕ)) (moment mid later : History) (spelled : Result (Option Event) LineFault) (answers others : List Answer)
    → ((next : History) (some : List Answer) → Handles next rest some mid → Handles next (rest ++ more) (some ++ others) later)
    → HandlesLine (λ next some. Handles next rest some mid) moment spelled answers
    → HandlesLine (λ next some. Handles next (rest ++ more) some later) moment spelled (answers ++ others)
line-append rest more moment mid later (Ok None) answers others go handles = go moment answers handles
line-append rest more moment mid later (Ok (Some happened)) answers others go handles = (
  handles.0,
  handles.1 ++ others,
  handles.2,
  go (after_event happened moment) handles.1 handles.3,
  ap (λ (some : List Answer). some ++ others) handles.4,
)
line-append rest more moment mid later (Err why) answers others go handles = handles

pub handles-append : (lines more : List (List ℕ)) (moment mid later : History) (answers others : List Answer)
    → Handles moment lines answers mid → Handles mid more others later → Handles moment (lines ++ more) (answers ++ others) later
handles-append [] more moment mid later answers others first then =
    let none = none-handles moment mid answers first in
    let same : Handles moment more others later = subst (λ (m : History). Handles m more others later) none.1 then in
    subst (λ (some : List Answer). Handles moment more (some ++ others) later) (sym none.0) same
handles-append (line ∷ rest) more moment mid later answers others first then =
    handles-line moment later line (rest ++ more) (answers ++ others)
    (line-append rest more moment mid later (event_of line) answers others
    (λ next some handles. handles-append rest more next mid later some others handles then) (line-handles moment mid line rest answers first))

-- lines without an event change nothing
abbrev IsSkipped : List ℕ → Type 0
IsSkipped line = event_of line ≡ Ok None

skips-each : (lines : List (List ℕ)) (moment : History) → AllByRecursion IsSkipped lines → Handles moment lines [] moment
skips-each [] moment none = handles-none moment
skips-each (line ∷ rest) moment none = handles-line moment moment line rest [] (rw none.0 (skips-each rest moment none.1))

pub skips : (lines : List (List ℕ)) (moment : History) → All IsSkipped lines → Handles moment lines [] moment
skips lines moment none = skips-each lines moment (recursion_from_All IsSkipped lines none)

-- a line whose event is accepted
pub answers-line : (moment : History) (line : List ℕ) (happened : Event) (answer : Answer) → event_of line ≡ Ok (Some happened) → IsAnswered moment happened answer
    → Handles moment (line ∷ []) (answer ∷ []) (after_event happened moment)
answers-line moment line happened answer spelled is =
    handles-line moment (after_event happened moment) line [] (answer ∷ [])
    (rw spelled (answer, [], is, handles-none (after_event happened moment), refl))

-- there is one answer to an accepted event
pub answered_once : (moment : History) (happened : Event) (answer other : Answer) → IsAnswered moment happened answer
    → IsAnswered moment happened other → answer ≡ other
answered_once moment happened answer other is was = answers_are_one moment happened answer other is.answers was.answers

-- where the first lines have been handled, the others are handled from the moment after them on
pub record Follows (mid later : History) (more : List (List ℕ)) (first all : List Answer) : Type 0 where
  pub others : List Answer
  pub handles : Handles mid more others later
  pub all_are : all ≡ first ++ others

line-follows : (rest more : List (List ℕ)) (moment mid later : History) (spelled : Result (Option Event) LineFault) (first all : List Answer)
    → ((next : History) (some each : List Answer) → Handles next rest some mid → Handles next (rest ++ more) each later → Follows mid later more some each)
    → HandlesLine (λ next some. Handles next rest some mid) moment spelled first
    → HandlesLine (λ next some. Handles next (rest ++ more) some later) moment spelled all
    → Follows mid later more first all
line-follows rest more moment mid later (Ok None) first all go handled handles = go moment first all handled handles
line-follows rest more moment mid later (Ok (Some happened)) first all go handled handles =
    let same : handles.0 ≡ handled.0 = answered_once moment happened handles.0 handled.0 handles.2 handled.2 in
    let then = go (after_event happened moment) handled.1 handles.1 handled.3 handles.3 in
    record {
      others = then.others;
      handles = then.handles;
      all_are = handles.4 ∙ ap (λ (a : Answer). a ∷ handles.1) same ∙ ap (λ (some : List Answer). handled.0 ∷ some) then.all_are
          ∙ ap (λ (some : List Answer). some ++ then.others) (sym handled.4);
    }
line-follows rest more moment mid later (Err why) first all go handled handles = absurd handled

pub handles-rest : (lines more : List (List ℕ)) (moment mid later : History) (first all : List Answer)
    → Handles moment lines first mid → Handles moment (lines ++ more) all later → Follows mid later more first all
handles-rest [] more moment mid later first all handled handles =
    let none = none-handles moment mid first handled in
    record {
      others = all;
      handles = subst (λ (m : History). Handles m more all later) (sym none.1) handles;
      all_are = ap (λ (some : List Answer). some ++ all) (sym none.0);
    }
handles-rest (line ∷ rest) more moment mid later first all handled handles =
    line-follows rest more moment mid later (event_of line) first all
    (λ next some each one other. handles-rest rest more next mid later some each one other)
    (line-handles moment mid line rest first handled) (line-handles moment later line (rest ++ more) all handles)

-- a line that is handled isn't refused
line-accepted : (Rest : History → List Answer → Type 0) (moment : History) (spelled : Result (Option Event) LineFault) (answers : List Answer)
    → HandlesLine Rest moment spelled answers → cause_of moment spelled ≡ None
line-accepted Rest moment (Ok None) answers handles = refl
line-accepted Rest moment (Ok (Some happened)) answers handles = rw handles.2.accepted refl
line-accepted Rest moment (Err why) answers handles = absurd handles

pub handles-accepted : (moment later : History) (line : List ℕ) (rest : List (List ℕ)) (answers : List Answer) → Handles moment (line ∷ rest) answers later
    → cause_of moment (event_of line) ≡ None
handles-accepted moment later line rest answers handles =
    line-accepted (λ next others. Handles next rest others later) moment (event_of line) answers (line-handles moment later line rest answers handles)

-- the answer to the first line
pub first-answer : (moment later : History) (line : List ℕ) (rest : List (List ℕ)) (answers : List Answer) (happened : Event) (answer : Answer)
    → event_of line ≡ Ok (Some happened) → IsAnswered moment happened answer → Handles moment (line ∷ rest) answers later
    → (others : List Answer) × (answers ≡ answer ∷ others)
first-answer moment later line rest answers happened answer spelled is handles =
    let told = rw spelled at (line-handles moment later line rest answers handles) in
    (told.1, told.4 ∙ ap (λ (a : Answer). a ∷ told.1) (answered_once moment happened told.0 answer told.2 is))
