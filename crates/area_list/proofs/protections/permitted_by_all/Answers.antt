use Rattle.std.proofs.Common.{rules, arith, ap, ◌∙◌, ℕ}
use Rattle.paging_model.specs.AccessSets.{has}
use Rattle.area_list.proofs.PermittedTables.{of_all, with-next}
use Rattle.area_list.proofs.protections.permitted_by_all.Goals as goal

pub loop-number-preserved : goal.loop-number-preserved
loop-number-preserved c = record {
  all = search rules;
  so_far = with-next c.args.regs.now c.loop-number.permitted c.loop-number.number c.from.result c.number.result c.bits_of.result c.from.ensures (omega arith) c.bits_of.ensures
      (λ access. ap (λ (n : ℕ). has n access) c.number.ensures.value ∙ c.rights-of_one.ensures access)
      c.loop-number.invariant.so_far;
}

pub returns : goal.returns
returns c = of_all c.args.regs.now c.loop-number.permitted c.loop-number.number (omega arith) c.loop-number.invariant.so_far
