use Rattle.std.proofs.Common.{length}
use Rattle.paging_reference.proofs.listings.+areas_of.Given as goal

abbrev pub decreases-areas_of : goal.decreases-areas_of
decreases-areas_of g l = length l.pages.now
