use Rattle.audit_laws.proofs.DescentLaws.{held_led, led_held}
use Rattle.audit_laws.proofs.descents.roots_lead_to_what_may_be_held.Goals as goal

pub returns : goal.returns
returns c history p pcid level x held leaf = (held_led history p pcid level x held leaf, led_held history p pcid level x held)
