use Rattle.std.proofs.Common.{◌≡◌, sym, ◌∙◌, inl, inr, rules}
use Rattle.paging_reference.proofs.Membership.{IsIn-get, IsIn-take}
use Rattle.history_reference.proofs.SameEntries.{same_entry, not_same}
use Rattle.history_reference.proofs.made_entries.has_entry.Goals as goal

pub returns-then-eq : goal.returns-then-eq
returns-then-eq c =
    let same : c.other-item.result ≡ c.args.entry.now = same_entry _ _ (sym c.eq.ensures ∙ c.if-eq.true) in (
      λ found. IsIn-get c.args.list.now c.loop-other.other-index c.args.entry.now c.other-item.result c.loop-other-test.true c.other-item.is same,
      λ is_in. search rules,
    )

pub loop-other-preserved : goal.loop-other-preserved
loop-other-preserved c is_in =
    elim ((IsIn-take c.args.entry.now c.args.list.now c.loop-other.other-index c.other-item.result c.loop-other-test.true c.other-item.is).0 is_in) [
      | inl before ↦ c.loop-other.invariant before
      | inr same ↦ not_same c.other-item.result c.args.entry.now (sym c.eq.ensures ∙ c.if-eq.false) same
    ]
