use Rattle.paging_model.specs.LinearAddress.{span}
use Rattle.space_map.proofs.Spans.{pages_whole, span_whole}
use Rattle.space_map.proofs.patched.patch_first.Goals as goal

pub returns-clause-whole : goal.returns-clause-whole
returns-clause-whole c =
    pages_whole (span c.args.patch.now.table.level) c.first_of.result (span_whole c.args.patch.now.table.level) c.first_of.ensures.whole
