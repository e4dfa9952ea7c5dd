use Rattle.std.proofs.Common.{sym, inr}
use Rattle.std.proofs.lemmas.Result.{on_ok_weaker}
use Rattle.kept_spaces.proofs.Listed.{kept-at, listed-kept, moved-kept, moved-listed, not-kept, put-kept-or-not, put-listed}
use Rattle.kept_spaces.proofs.kept.KeptSpaces.list.Goals as goal

pub invariant_of-self : goal.invariant_of-self
invariant_of-self g c =
    let is = rw (c.in-Some.is, c.deref.ensures.value) at c.index_of.ensures in
    moved-kept c.args.key _ _ c.in-Some.index c.self.invariant (kept-at _ _ _ is) c.move_first.ensures

pub returns-in-Some-clause-ok : goal.returns-in-Some-clause-ok
returns-in-Some-clause-ok g c =
    let is = rw (c.in-Some.is, c.deref.ensures.value) at c.index_of.ensures in
    let are_true = rw (sym c.self.view_is) at c.requires.are_true in
    rw (sym c.self.view_is)
    (moved-listed _ c.args.key _ _ c.in-Some.index c.self.invariant are_true (kept-at _ _ _ is) c.move_first.ensures)

pub returns-in-Some-clause-cost : goal.returns-in-Some-clause-cost
returns-in-Some-clause-cost g c =
    let is = rw (c.in-Some.is, c.deref.ensures.value) at c.index_of.ensures in
    rw (sym c.self.view_is) (listed-kept _ c.args.key _ _ c.in-Some.index is)

pub returns-in_err-space-clause-cost : goal.returns-in_err-space-clause-cost
returns-in_err-space-clause-cost g c =
    let none = rw (c.in_default.is, c.deref.ensures.value) at c.index_of.ensures in
    rw (sym c.self.view_is) (inr (not-kept c.args.key _ none, c.build.ensures.cost))

pub invariant_of-self-2 : goal.invariant_of-self-2
invariant_of-self-2 g c =
    let none = rw (c.in_default.is, c.deref.ensures.value) at c.index_of.ensures in
    put-kept-or-not c.put_first.result c.args.key _ _ _ c.self.invariant (not-kept c.args.key _ none)
    c.in_ok-space.ensures.ok.key_is c.put_first.ensures.ok c.put_first.ensures.err

pub returns-clause-ok : goal.returns-clause-ok
returns-clause-ok g c =
    let none = rw (c.in_default.is, c.deref.ensures.value) at c.index_of.ensures in
    let are_true = rw (sym c.self.view_is) at c.requires.are_true in
    rw (sym c.self.view_is)
    (on_ok_weaker c.put_first.result
    (put-listed _ c.args.key _ _ _ are_true (not-kept c.args.key _ none) c.in_ok-space.ensures.ok)
    c.put_first.ensures.ok)

pub returns-clause-cost : goal.returns-clause-cost
returns-clause-cost g c =
    let none = rw (c.in_default.is, c.deref.ensures.value) at c.index_of.ensures in
    rw (sym c.self.view_is) (inr (not-kept c.args.key _ none, c.build.ensures.cost))
