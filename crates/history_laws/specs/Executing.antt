-- Which processor executes an event.
use Rattle.std.specs.Prelude.{ℕ, ◌==◌, Bool, false}
use Rattle.history_model.specs.declared.events.Event.{Event}
use Rattle.history_model.specs.declared.events.Event.TheVariants as event

-- processor p executes the event, and so it may remove something of what p holds; a write is seen by all
abbrev pub is_by : ℕ → Event → Bool
is_by p (event.Set cpu change) = cpu == p
is_by p (event.Invlpg cpu address) = cpu == p
is_by p (event.Invpcid cpu kind pcid address) = cpu == p
is_by p _ = false
