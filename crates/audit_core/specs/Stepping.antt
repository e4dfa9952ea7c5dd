-- What comes of an event: the session accepts it, refuses it, or runs out of memory. `Stands` is the relation between a
-- session and the moments that it stands for.
use Rattle.std.specs.Prelude.{◌≡◌, ◌⊎◌, ◌+◌, ◌≤◌, ℕ, Bool, true, false, IsTrue, Some, None}
use Rattle.history_model.specs.Answering.{Answers}
use Rattle.history_model.specs.History.{History, after_event}
use Rattle.history_model.specs.Bounds.{MayTake}
use Rattle.history_model.specs.Refusals.{refusal}
use Rattle.history_model.specs.declared.answers.Answer.{Answer}
use Rattle.history_model.specs.declared.events.Event.{Event}
use Rattle.history_model.specs.declared.events.Event.TheVariants as event
use Rattle.history_model.specs.declared.faults.StepFault.{StepFault}
use Rattle.audit_core.specs.Standing.{Holding}

-- memory may run out at the event: the list of processors grows with it, or the past of one, a page that is written to
-- needs a block, or what it held, a space is built or updated, or the processors are audited
abbrev pub may_run_out : Event → Bool
may_run_out (event.Cpu _ _) = true
may_run_out (event.Write _ _) = true
may_run_out (event.Set _ _) = true
may_run_out (event.Invlpg _ _) = true
may_run_out (event.Invpcid _ _ _ _) = true
may_run_out (event.List _) = true
may_run_out (event.Point _) = true
may_run_out _ = false

-- how many steps an accepted event may take, in the moment before it: as many as its bound says, and a point any number
abbrev pub StepsMayBe : History → Event → ℕ → Type 0
StepsMayBe moment (event.Point all) steps = Unit {0}
StepsMayBe moment happened steps = MayTake moment happened steps

-- it takes no more, of those before and after it
pub record TakesSteps (moment : History) (happened : Event) (before after : ℕ) : Type 0 where
  pub steps : ℕ
  pub bound : StepsMayBe moment happened steps
  pub within : after ≤ before + steps

-- how many a refused one may take: a write one for each slot of a page, and one more
abbrev pub refused_step_limit : Event → ℕ
refused_step_limit (event.Write _ _) = 513
refused_step_limit _ = 0

-- the event is accepted: in a moment that the session stands for it isn't refused, the answer is the one that is defined
-- there, and the session then stands for the moment after it
pub record AcceptsEvent (Stands : Holding → History → Type 0) (old new : Holding) (happened : Event)
    (answer : Answer) : Type 0 where
  pub unrefused : (moment : History) → Stands old moment → refusal moment happened ≡ None
  pub answered : (moment : History) → Stands old moment → Answers moment happened answer
  pub stands : (moment : History) → Stands old moment → Stands new (after_event happened moment)

-- the event is refused: in a moment that the session stands for the fault is the one that is defined there, and the
-- session stays as it was
pub record RefusesEvent (Stands : Holding → History → Type 0) (old new : Holding) (happened : Event)
    (fault : StepFault) : Type 0 where
  pub reason : (moment : History) → Stands old moment → refusal moment happened ≡ Some fault
  pub unchanged : new ≡ old

-- memory ran out: at an event that allocates, or before, when the session was poisoned; in a moment that the session
-- stands for the event isn't refused, and the session is poisoned
pub record RunsOutOfMemory (Stands : Holding → History → Type 0) (old new : Holding) (happened : Event) : Type 0 where
  pub cause : IsTrue old.poisoned ⊎ IsTrue (may_run_out happened)
  pub unrefused : (moment : History) → Stands old moment → refusal moment happened ≡ None
  pub poisoned : IsTrue new.poisoned
