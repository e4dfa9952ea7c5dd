use Rattle.std.proofs.Common.{length}
use Rattle.paging_reference.proofs.listings.+are_pages.Given as goal

abbrev pub decreases-are_pages : goal.decreases-are_pages
decreases-are_pages l = length l.addresses.now
