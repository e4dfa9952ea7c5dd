use Rattle.page_laws.proofs.PageCounts.{high-none}
use Rattle.page_laws.proofs.entries.high_entries_map_no_pages.Goals as goal

pub returns : goal.returns
returns c memory settings level table from count high = high-none memory settings level table from count high
