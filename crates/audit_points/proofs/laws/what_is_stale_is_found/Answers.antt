use Rattle.std.proofs.Common.{refl}
use Rattle.paging_model.specs.Walking.{top_level}
use Rattle.audit_points.proofs.FoundLaws.{stale-iff}
use Rattle.audit_points.proofs.laws.what_is_stale_is_found.Goals as goal

pub returns : goal.returns
returns c facts history one stand = stale-iff facts history (top_level facts.settings) one stand refl
