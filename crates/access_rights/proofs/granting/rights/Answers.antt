use Rattle.std.proofs.Common.{arith, ◌∙◌}
use Rattle.paging_model.specs.AccessRights.{refuses, rules}
use Rattle.paging_model.specs.declared.access.Rule.TheVariants.{User}
use Rattle.access_rights.proofs.RuleLists.{none_refuses-more}
use Rattle.access_rights.proofs.granting.rights.Goals as goal

pub loop-rule-preserved : goal.loop-rule-preserved
loop-rule-preserved c access =
    c.minus-granted.ensures access
    ∙ none_refuses-more (refuses c.args.regs.now access c.args.bits c.args.key) rules c.loop-rule.rule-index User _ _
    (omega arith) (c.loop-rule.invariant access) (c.refusals.ensures access)
