-- Whether some answer has stale translations, of several parts.
use Rattle.std.proofs.Common.{◌≡◌, refl}
use Rattle.std.specs.Prelude.{Bool, true, false, ◌||◌}

pub no_more : (stale : Bool) → stale ≡ (stale || false)
no_more true = refl
no_more false = refl

pub or_more : (stale found more : Bool) → ((stale || found) || more) ≡ (stale || (found || more))
or_more true found more = refl
or_more false found more = refl
