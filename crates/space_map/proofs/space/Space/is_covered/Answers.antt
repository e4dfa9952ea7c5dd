use Rattle.std.proofs.Common.{◌≡◌, ℕ, inl, inr, refl, subst, arith}
use Rattle.std.proofs.lemmas.Bool.{cases_lt}
use Rattle.space_map.specs.FramePatches.{IsCoveredAt}
use Rattle.space_map.specs.PatchWalks.{index_tables}
use Rattle.space_map.proofs.CoveredUses.{never-true, top-most}
use Rattle.space_map.proofs.space.Space.is_covered.Goals as goal

pub overflow_step-level : goal.overflow_step-level
overflow_step-level c =
    let here = c.requires.highest c.args.table.now c.requires.is_in refl in
    omega (arith, here, c.requires.most, top-most c.args.self.now.key.settings)

pub overflow_add-level-end : goal.overflow_add-level-end
overflow_add-level-end c = omega (arith, c.requires.most, top-most c.args.self.now.key.settings)

pub is_covered_at-requires : goal.is_covered_at-requires
is_covered_at-requires c = record {
  is_in = c.requires.is_in;
  higher = omega (arith, c.loop-level.auto.level);
  most = omega (arith, c.requires.most, c.loop-level-test.true);
}

pub loop-level-preserved : goal.loop-level-preserved
loop-level-preserved c level more less at = elim (cases_lt level c.loop-level.level) [
  | inl before ↦ c.loop-level.invariant level more before at
  | inr most ↦
      let here : level ≡ c.loop-level.level = omega (arith, most, less) in
      never-true (c.if-is_covered_at.ensures.1
      (subst (λ (n : ℕ). IsCoveredAt c.args.self.now.key.settings c.args.first c.args.last c.args.table.now.frame
      (index_tables c.args.self.now.index) c.args.table.now n) here at))
]

pub returns : goal.returns
returns c = (
  λ is. absurd (never-true is),
  λ covered. absurd (c.loop-level.invariant covered.upper.level covered.higher
      (let high = c.requires.highest covered.upper covered.is_in covered.is_frame in omega (arith, high, c.loop-level-test.false))
      (record { covered = covered; at = refl })),
)
