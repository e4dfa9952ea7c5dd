use Rattle.std.proofs.Common.{◌≡◌, arith, ◌∙◌, sym}
use Rattle.paging_model.proofs.Denials.{granted_where_none}
use Rattle.paging_model.specs.AccessRights.{denial_of, refuses, rules}
use Rattle.paging_model.specs.declared.access.Rule.TheVariants.{User}
use Rattle.access_rights.proofs.RuleLists.{none_refuses-next, find-first, find-none}
use Rattle.access_rights.proofs.granting.denial.Goals as goal

pub loop-rule-preserved : goal.loop-rule-preserved
loop-rule-preserved c =
    none_refuses-next (refuses c.args.regs.now c.args.access c.args.bits c.args.key) rules c.loop-rule.rule-index User c.has.result
    (omega arith) c.loop-rule.invariant (c.has.ensures ∙ c.refusals.ensures c.args.access) c.if-has.false

pub returns-then-has-clause-rule : goal.returns-then-has-clause-rule
unfolding denial_of
returns-then-has-clause-rule c =
    sym (find-first (refuses c.args.regs.now c.args.access c.args.bits c.args.key) rules c.loop-rule.rule-index User
    (omega arith) c.loop-rule.invariant (sym (c.has.ensures ∙ c.refusals.ensures c.args.access) ∙ c.if-has.true))

pub returns-then-has-clause-granted : goal.returns-then-has-clause-granted
returns-then-has-clause-granted c =
    granted_where_none c.args.regs.now c.args.access c.args.bits c.args.key _ (returns-then-has-clause-rule c)

pub returns-clause-rule : goal.returns-clause-rule
unfolding denial_of
returns-clause-rule c =
    let at_end : c.loop-rule.rule-index ≡ 6 = omega arith in
    sym (find-none (refuses c.args.regs.now c.args.access c.args.bits c.args.key) rules (rw at_end at c.loop-rule.invariant))

pub returns-clause-granted : goal.returns-clause-granted
returns-clause-granted c =
    granted_where_none c.args.regs.now c.args.access c.args.bits c.args.key _ (returns-clause-rule c)
