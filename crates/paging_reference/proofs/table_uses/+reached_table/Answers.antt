use Rattle.std.proofs.Common.{Some, sym, ap, ◌∙◌, arith}
use Rattle.paging_reference.proofs.ReachedTables.{none_is_none, reached-above_top, reached-top, unreached, unread, no_table, reached-below}
use Rattle.paging_reference.proofs.table_uses.+reached_table.Goals as goal

pub returns-then-level-top-clause-value : goal.returns-then-level-top-clause-value
returns-then-level-top-clause-value g t c table = (
  λ same. absurd (cc),
  λ is. absurd (reached-above_top _ _ _ _ _ table (let top = c.top_level-top.ensures.value in let over = c.if-level-top.true in omega (arith, top)) is),
)

pub returns-then-level-top-2-clause-value : goal.returns-then-level-top-2-clause-value
returns-then-level-top-2-clause-value g t c table =
    reached-top _ _ _ _ _ table (c.if-level-top-2.true ∙ c.top_level-top.ensures.value)

pub returns-in_err-upper-clause-value : goal.returns-in_err-upper-clause-value
returns-in_err-upper-clause-value g t c table = (
  λ same. absurd (none_is_none c.from_residual.ensures same),
  λ is. absurd (unreached _ _ _ _ _ c.reached_table.result c.reached_table.ensures.value
      (let top = c.top_level-top.ensures.value in omega (arith, top)) c.in_err-upper.was table is),
)

pub returns-in_err-entry-clause-value : goal.returns-in_err-entry-clause-value
returns-in_err-entry-clause-value g t c table = (
  λ same. absurd (none_is_none c.from_residual-in_err-entry.ensures same),
  λ is. absurd (unread _ _ _ _ _ c.reached_table.result c.reached_table.ensures.value
      (let top = c.top_level-top.ensures.value in omega (arith, top)) c.in_ok-upper.upper c.in_ok-upper.was
      (sym c.entry_read.ensures.value ∙ c.in_err-entry.was) table is),
)

pub returns-in_default-clause-value : goal.returns-in_default-clause-value
returns-in_default-clause-value g t c table = (
  λ same. absurd (cc),
  λ is. absurd (no_table _ _ _ _ _ c.reached_table.result c.reached_table.ensures.value
      (let top = c.top_level-top.ensures.value in omega (arith, top)) c.in_ok-upper.upper c.in_ok-upper.was
      c.in_ok-entry.entry (sym c.entry_read.ensures.value ∙ c.in_ok-entry.was) c.in_default.not-Table table is),
)

pub returns-clause-value : goal.returns-clause-value
returns-clause-value g t c table =
    rw c.join.ensures
    (reached-below _ _ _ _ _ c.reached_table.result c.reached_table.ensures.value
    (let top = c.top_level-top.ensures.value in omega (arith, top)) c.in_ok-upper.upper c.in_ok-upper.was
    c.in-Table.frame c.in-Table.bits (sym c.entry_read.ensures.value ∙ (c.in_ok-entry.was ∙ ap Some c.in-Table.is)) table)
