use Rattle.std.proofs.Common.{◌⊎◌, ◌↔◌, List, subst}
use Rattle.std.proofs.lemmas.List.{take_all}
use Rattle.paging_model.specs.Counting.{IsIn}
use Rattle.history_reference.specs.CacheEntries.{HeldEntry}
use Rattle.history_reference.proofs.MadeLists.{added_one}
use Rattle.paging_reference.proofs.Membership.{IsIn-take}
use Rattle.history_reference.proofs.made_entries.add_entries.Goals as goal

pub loop-entry-preserved : goal.loop-entry-preserved
loop-entry-preserved c other =
    added_one (c.loop-entry.invariant other) (c.in_ok-add_entry.ensures other)
    (IsIn-take other c.args.entries.now c.loop-entry.entry-index c.entry-item.result c.loop-entry-test.true c.entry-item.is)

pub returns : goal.returns
returns c other =
    subst (λ (all : List HeldEntry). IsIn other c.loop-entry.list.items ↔ (IsIn other c.args.list.now.items ⊎ IsIn other all))
    (take_all c.loop-entry.entry-index c.args.entries.now c.loop-entry-test.false) (c.loop-entry.invariant other)
