-- Four tables and two pages are all.
use Rattle.std.proofs.Common.{refl}
use Rattle.paging_model.specs.Counting.{AreAll}
use Rattle.paging_model.specs.Entries.{entry_of, is_reserved}
use Rattle.paging_model.specs.Memory.{entry_at}
use Rattle.paging_model.specs.TableUses.{IsLeaf}
use Rattle.paging_model.specs.Walking.{walk, walk_from}
use Rattle.paging_model.specs.WorkedExamples.{small_memory}
use Rattle.paging_model.specs.WorkedSpaces.{small_settings, small_pages}
use Rattle.paging_model.proofs.SmallMemory.{small_tables}
use Rattle.paging_model.proofs.SmallUses.{all_uses, all_pages, within_limits}
use Rattle.paging_model.proofs.examples.limits.Goals as goal

leaves : AreAll (IsLeaf small_memory small_settings 0x1000) small_pages
unfolding entry_of is_reserved walk walk_from entry_at
leaves = all_pages small_tables _ _ refl refl refl refl

pub returns : goal.returns
returns c = record {
  greatest_uses = refl;
  greatest_leaves = refl;
  uses = all_uses small_tables tt tt;
  leaves = leaves;
  within = within_limits (all_uses small_tables tt tt) leaves;
}
