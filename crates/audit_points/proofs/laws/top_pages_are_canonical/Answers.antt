use Rattle.audit_points.proofs.CanonicalLaws.{top-pages}
use Rattle.audit_points.proofs.laws.top_pages_are_canonical.Goals as goal

pub returns : goal.returns
returns c five_levels x = top-pages five_levels x
