use Rattle.audit_laws.proofs.AlikeLaws.{turned, exceeds-alike, excess-alike}
use Rattle.audit_laws.proofs.ranges.one_page_is_stale_throughout.Goals as goal

pub returns-clause-stale : goal.returns-clause-stale
returns-clause-stale c known page first level x y held at = (
  exceeds-alike known page first level held x y at,
  exceeds-alike known page first level held y x (turned known page first level held x y at),
)

pub returns-clause-excess : goal.returns-clause-excess
returns-clause-excess c known page first level x y held at = excess-alike known page first level held x y at
