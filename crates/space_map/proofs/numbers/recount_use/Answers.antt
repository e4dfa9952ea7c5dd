use Rattle.std.proofs.Common.{◌+◌, ◌-◌, inl, inr, sym, ◌∙◌, arith}
use Rattle.std.proofs.lemmas.Bool.{cases_lt}
use Rattle.space_map.proofs.IndexTables.{one-at}
use Rattle.space_map.proofs.Recounts.{changed-none, changed-same, changed-use, tables-with_pages}
use Rattle.space_map.proofs.numbers.recount_use.Goals as goal

pub returns-in_default-clause-changed : goal.returns-in_default-clause-changed
returns-in_default-clause-changed c was is framed change =
    changed-none was is c.args.patch.now c.args.before c.args.after c.args.index.now c.in_default.ensures

pub returns-clause-tables : goal.returns-clause-tables
returns-clause-tables c =
    tables-with_pages c.args.patch.now.table.level c.args.patch.now.table.prefix c.saturating_add-pages.result c.args.index.now c.recount.new.self c.recount.ensures

pub returns-clause-changed : goal.returns-clause-changed
returns-clause-changed c was is framed change =
    changed-use was is c.args.patch.now c.args.before c.args.after c.in-Some.found c.saturating_add-pages.result c.args.index.now c.recount.new.self framed change
    (elim (cases_lt (c.in-Some.found.pages - c.args.before + c.args.after) 65536) [
      | inl less ↦ inl (omega (arith, less, c.saturating_sub.ensures, c.saturating_add-pages.ensures))
      | inr more ↦ inr more
    ])
    (λ one is_in at. one-at c.args.index.now c.form.ensures.places one c.in-Some.found is_in c.in-Some.ensures.0 (at.0 ∙ sym c.in-Some.ensures.1.0) (at.1 ∙ sym c.in-Some.ensures.1.1))
    c.recount.ensures

pub returns-then-before-after-clause-changed : goal.returns-then-before-after-clause-changed
returns-then-before-after-clause-changed c was is framed change =
    changed-same was is c.args.patch.now c.args.before c.args.after c.args.index.now c.if-before-after.true framed change
