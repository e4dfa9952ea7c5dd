use Rattle.std.proofs.Common.{ℕ, ◌≡◌, ◌≤◌, ◌/◌, ◌%◌, ap, arith, subst, sym}
use Rattle.std.proofs.lemmas.Bool.{le-leb, leb-true}
use Rattle.paging_model.specs.LinearAddress.{index}
use Rattle.space_map.proofs.CoveredUses.{covered-by, covered-frame, covered-none, covered-slots, never-true}
use Rattle.space_map.proofs.space.Space.is_covered_at.Goals as goal

pub returns-in_default : goal.returns-in_default
returns-in_default c = (
  λ is. absurd (never-true is),
  λ at. absurd (covered-none c.args.self.now.key.settings c.args.first c.args.last c.args.self.now.index c.args.self.now.serving c.args.table.now c.args.level
      c.serving_prefix-prefix.result c.serving_prefix-prefix.ensures c.in_default.ensures at),
)

pub returns-then-upper-table : goal.returns-then-upper-table
returns-then-upper-table c = (
  λ is. absurd (never-true is),
  λ at. absurd (c.if-upper-table.true (covered-frame c.args.self.now.key.settings c.args.first c.args.last c.args.self.now.index c.args.self.now.serving c.args.table.now c.args.level
      c.serving_prefix-prefix.result c.serving_prefix-prefix.ensures
      c.form.ensures.places c.in-Some.upper c.in-Some.ensures.0 c.in-Some.ensures.1 at)),
)

pub returns-then-first-slot : goal.returns-then-first-slot
returns-then-first-slot c =
    let slot : c.args.table.now.prefix / c.span.result % 512 ≡ index c.args.level c.args.table.now.prefix =
    ap (λ (w : ℕ). c.args.table.now.prefix / w % 512) c.span.ensures.value in (
      λ is. covered-by c.args.self.now.key.settings c.args.first c.args.last c.args.self.now.index c.args.self.now.serving c.args.table.now c.args.level
          c.serving_prefix-prefix.result c.serving_prefix-prefix.ensures
          c.form.ensures.places c.in-Some.upper c.in-Some.ensures.0 c.in-Some.ensures.1 c.if-upper-table.false c.requires.higher
          (subst (λ (n : ℕ). c.args.first ≤ n) slot c.if-first-slot.true)
          (subst (λ (n : ℕ). n ≤ c.args.last) slot (leb-true _ _ is)),
      λ at. le-leb _ _ (subst (λ (n : ℕ). n ≤ c.args.last) (sym slot) (covered-slots c.args.self.now.key.settings c.args.first c.args.last c.args.self.now.index c.args.self.now.serving c.args.table.now c.args.level
          c.serving_prefix-prefix.result c.serving_prefix-prefix.ensures at).1),
    )

pub returns-else-first-slot : goal.returns-else-first-slot
returns-else-first-slot c =
    let slot : c.args.table.now.prefix / c.span.result % 512 ≡ index c.args.level c.args.table.now.prefix =
    ap (λ (w : ℕ). c.args.table.now.prefix / w % 512) c.span.ensures.value in (
      λ is. absurd (let from = leb-true _ _ is in omega (arith, from, c.if-first-slot.false)),
      λ at. absurd
          (let from = subst (λ (n : ℕ). c.args.first ≤ n) (sym slot) (covered-slots c.args.self.now.key.settings c.args.first c.args.last c.args.self.now.index c.args.self.now.serving c.args.table.now c.args.level
          c.serving_prefix-prefix.result c.serving_prefix-prefix.ensures at).0 in
          omega (arith, from, c.if-first-slot.false)),
    )
