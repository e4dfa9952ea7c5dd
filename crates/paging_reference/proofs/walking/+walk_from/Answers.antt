use Rattle.std.proofs.Common.{Some, ap, sym, ◌∙◌}
use Rattle.paging_reference.proofs.ReadEntries.{walk_from-unread, walk_from-read}
use Rattle.paging_reference.proofs.walking.+walk_from.Goals as goal

pub returns-in_default-clause-value : goal.returns-in_default-clause-value
returns-in_default-clause-value g t c =
    walk_from-unread _ _ c.args.address c.args.level c.args.table c.args.above c.requires.least c.in_default.ensures.value

pub returns-in-Absent-clause-value : goal.returns-in-Absent-clause-value
returns-in-Absent-clause-value g t c =
    walk_from-read _ _ c.args.address c.args.level c.args.table c.args.above c.requires.least _ (ap Some (sym c.in-Absent.is) ∙ c.in-Some.ensures.value)

pub returns-in-Reserved-clause-value : goal.returns-in-Reserved-clause-value
returns-in-Reserved-clause-value g t c =
    walk_from-read _ _ c.args.address c.args.level c.args.table c.args.above c.requires.least _ (ap Some (sym c.in-Reserved.is) ∙ c.in-Some.ensures.value)

pub returns-in-Table-clause-value : goal.returns-in-Table-clause-value
returns-in-Table-clause-value g t c =
    c.walk_from.ensures.value
    ∙ rw c.join.ensures
    (walk_from-read _ _ c.args.address c.args.level c.args.table c.args.above c.requires.least _ (ap Some (sym c.in-Table.is) ∙ c.in-Some.ensures.value))

pub returns-in-Leaf-clause-value : goal.returns-in-Leaf-clause-value
returns-in-Leaf-clause-value g t c =
    rw (c.join-in-Leaf.ensures, c.own_frame.ensures)
    (walk_from-read _ _ c.args.address c.args.level c.args.table c.args.above c.requires.least _ (ap Some (sym c.in-Leaf.is) ∙ c.in-Some.ensures.value))
