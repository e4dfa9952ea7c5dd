use Rattle.audit_points.proofs.PointLaws.{some-stale, stale-some}
use Rattle.audit_points.proofs.laws.what_is_stale_is_held_under_some_pcid.Goals as goal

pub returns : goal.returns
returns c facts history pcid one is_known settings_is home_is =
    (stale-some facts history pcid one is_known settings_is home_is, some-stale facts history pcid one is_known settings_is home_is)
