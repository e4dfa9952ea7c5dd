use Rattle.std.proofs.Common.{◌≡◌, ap, refl}
use Rattle.std.specs.Prelude.{Option, Some, None, Result, Ok, Err}
use Rattle.history_model.specs.declared.events.Event.{Event}
use Rattle.edit_log.specs.Reading.{Reading, Gives, Passes, Refuses, RunsOut}
use Rattle.edit_log.specs.declared.line_forms.LineFault.{LineFault}
use Rattle.edit_log.specs.declared.line_forms.LineFault.TheVariants.{TooLong, Syntax, Memory}
use Rattle.edit_log.proofs.tests.next.Goals as goal

-- of a reader that isn't refused yet
unrefused-finished : (old new : Reading) (read : Result (Option Event) LineFault) → old.refused ≡ None
    → ((event : Event) → read ≡ Ok (Some event) → Gives old new event) → (read ≡ Ok None → Passes old new)
    → (read ≡ Err TooLong → old.refused ≡ None → Refuses old new TooLong) → (read ≡ Err Syntax → old.refused ≡ None → Refuses old new Syntax)
    → (read ≡ Err Memory → RunsOut old new) → new.finished ≡ old.finished
unrefused-finished old new (Ok (Some event)) unrefused gives passes too_long syntax memory = (gives event refl).takes.finished
unrefused-finished old new (Ok None) unrefused gives passes too_long syntax memory = (passes refl).takes.finished
unrefused-finished old new (Err TooLong) unrefused gives passes too_long syntax memory = (too_long refl unrefused).finished
unrefused-finished old new (Err Syntax) unrefused gives passes too_long syntax memory = (syntax refl unrefused).finished
unrefused-finished old new (Err Memory) unrefused gives passes too_long syntax memory = ap (λ (r : Reading). r.finished) (memory refl).same

pub returns : goal.returns
returns c =
    let old = c.args.lines.now in
    let new = c.next.new.self in
    let ensures = c.next.ensures in
    elim old.refused as (λ refused. old.refused ≡ refused → new.finished ≡ old.finished) [
      | Some fault ↦ λ is. ap (λ (r : Reading). r.finished) (ensures.refused fault is).1
      | None ↦ λ is. unrefused-finished old new c.next.result is ensures.event ensures.none ensures.too_long ensures.syntax ensures.memory
    ] refl
