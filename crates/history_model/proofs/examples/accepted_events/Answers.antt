-- Each event of the history is accepted.
use Rattle.std.proofs.Common.{refl, [], ◌∷◌}
use Rattle.paging_model.specs.declared.registers.RegChange.TheVariants as change
use Rattle.history_model.specs.Refusals.{begins, goes_on}
use Rattle.history_model.specs.declared.events.Event.TheVariants as event
use Rattle.history_model.proofs.examples.accepted_events.Goals as goal

pub returns : goal.returns
returns c = record {
  three =
      goes_on (event.Set 0 (change.Cr3 0x8000000000008002)) (goes_on (event.Set 0 (change.Cr3 0x1001))
      (goes_on (event.Set 0 (change.Cr4 0x20020)) begins refl) refl) refl;
  writes = goes_on (event.Write 0x4001 (3 ∷ [])) (goes_on (event.Write 0x4000 (1 ∷ 2 ∷ [])) begins refl) refl;
}
