use Rattle.paging_laws.proofs.Pigeonholes.{too_large_within_limits}
use Rattle.paging_laws.proofs.counts.too_large_is_not_within_limits.Goals as goal

pub returns : goal.returns
returns c memory settings root large within = too_large_within_limits memory settings root large within
