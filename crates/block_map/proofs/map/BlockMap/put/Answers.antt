use Rattle.std.proofs.Common.{◌∙◌, is_some, sym, ap, arith}
use Rattle.block_map.proofs.Pages.{find-pages, pages-unwritten, pages-rewritten, length-rewritten}
use Rattle.block_map.proofs.map.BlockMap.put.Goals as goal

pub invariant_of-self : goal.invariant_of-self
invariant_of-self c = c.self.invariant ∙ sym (length-rewritten _ _ _ c.args.number _ (omega arith) c.put.ensures.changed)

pub returns-clause-found : goal.returns-clause-found
returns-clause-found c =
    rw (sym c.self.view_is) (c.put.ensures.found ∙ sym (ap is_some (find-pages _ _ c.args.number (omega arith))))

pub returns-clause-absent : goal.returns-clause-absent
returns-clause-absent c =
    rw (sym c.self.view_is) (λ none. pages-unwritten _ _ _ c.args.number _ c.put.ensures.changed
    (sym (find-pages _ _ c.args.number (omega arith)) ∙ none))

pub returns-clause-changed : goal.returns-clause-changed
returns-clause-changed c =
    rw (sym c.self.view_is) (λ block some.
    let found = sym (find-pages _ _ c.args.number (omega arith)) ∙ some in
    (c.put.ensures.len block found, pages-rewritten _ _ _ c.args.number _ block (omega arith) c.put.ensures.changed found))

pub returns-clause-count : goal.returns-clause-count
returns-clause-count c =
    rw (sym c.self.view_is) (length-rewritten _ _ _ c.args.number _ (omega arith) c.put.ensures.changed)
