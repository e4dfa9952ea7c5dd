use Rattle.std.proofs.Common.{ap, arith, length, ◌/◌}
use Rattle.std.proofs.lemmas.List.{length-take, length-drop, take_rest}
use Rattle.std.proofs.lemmas.Result.{IfOk-weaker}
use Rattle.elf_core.proofs.Scanning.{placed_at}
use Rattle.elf_core.proofs.Halves.{changes_of_cut, changes_of_single, placed-take, placed-drop}
use Rattle.elf_core.proofs.changes.+changes_of.Goals as goal

pub changes_of_one-requires : goal.changes_of_one-requires
changes_of_one-requires t c = placed_at c.args.segments.now 0 _ (omega arith) c.requires.placed

pub returns-in-len1 : goal.returns-in-len1
returns-in-len1 t c = IfOk-weaker _ _ _ (λ changes. changes_of_single c.args.segments.now _ c.args.index changes.items (omega arith) (omega arith)) c.changes_of_one.ensures

pub changes_of-requires : goal.changes_of-requires
changes_of-requires t c =
    let count = length-take (length c.args.segments.now / 2) c.args.segments.now in
    (omega arith, (placed-take c.args.segments.now _ c.requires.placed, omega arith))

pub changes_of-requires-in_default : goal.changes_of-requires-in_default
changes_of-requires-in_default t c =
    let left = ap length (take_rest c.args.segments.now (length c.args.segments.now / 2)) in
    let count = length-drop (length c.args.segments.now / 2) c.args.segments.now in
    (omega arith, (placed-take _ _ (placed-drop c.args.segments.now _ c.requires.placed), omega arith))

pub returns-in_ok-second-in_default : goal.returns-in_ok-second-in_default
returns-in_ok-second-in_default t c = IfOk-weaker _ _ _ (λ changes. changes_of_cut c.args.segments.now (length c.args.segments.now / 2) c.args.index c.in_ok-first-in_default.first.items c.in_ok-second-in_default.second.items _ _ changes.items (omega arith) c.deref.ensures.value c.deref-in_default.ensures.value c.in_ok-first-in_default.ensures c.in_ok-second-in_default.ensures) c.changes_of_both.ensures
