-- The moment that the generated core states, and that no event of a list is refused. (Our own format; docs/FORMATS.md.)
use Rattle.std.specs.Prelude.{◌≡◌, true, List, [], ◌∷◌, None, ⊤}
use Rattle.history_model.specs.History.{History, Start, after_event}
use Rattle.history_model.specs.Refusals.{refusal}
use Rattle.history_model.specs.declared.events.Event.{Event}
use Rattle.image_gen.specs.StatedCore.{stated_core}

-- what the generated core states, before the first event
abbrev pub generated_start : Start
generated_start = record {
  extents = stated_core.segments;
  stated = true;
  machine = stated_core.machine;
  processors = stated_core.processors;
}

-- none of these events is refused in the moment that those before it lead to
abbrev pub AreAccepted : History → List Event → Type 0
AreAccepted moment [] = ⊤
AreAccepted moment (happened ∷ rest) = (refusal moment happened ≡ None) × AreAccepted (after_event happened moment) rest
