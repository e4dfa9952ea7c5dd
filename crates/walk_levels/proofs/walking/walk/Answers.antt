use Rattle.std.proofs.Common.{sym, ◌∙◌, arith, refl}
use Rattle.paging_model.specs.Walking.{walk}
use Rattle.paging_model.proofs.WalkSteps.{walk_from-unknown, walk_from-entry}
use Rattle.walk_levels.proofs.walking.walk.Goals as goal

pub loop-value-init : goal.loop-value-init
unfolding walk
loop-value-init g c = record {
  walked = rw c.top_level-level.ensures.value refl;
  least = omega arith;
  most = omega arith;
  steps = omega arith;
  aligned = c.requires.aligned;
  below = c.requires.below;
}

pub returns-in_default-clause-value : goal.returns-in_default-clause-value
returns-in_default-clause-value g c =
    sym (walk_from-unknown _ _ _ _ _ c.loop-value.bits _ c.loop-value.invariant.least c.entry_address.ensures.value c.in_default.ensures.value)
    ∙ c.loop-value.invariant.walked

pub returns-in-Absent-clause-value : goal.returns-in-Absent-clause-value
returns-in-Absent-clause-value g c =
    sym (walk_from-entry _ _ _ _ _ c.loop-value.bits _ _ _ c.loop-value.invariant.least c.entry_address.ensures.value c.in-Some.ensures.value c.in-Absent.ensures.value)
    ∙ c.loop-value.invariant.walked

pub returns-in-Reserved-clause-value : goal.returns-in-Reserved-clause-value
returns-in-Reserved-clause-value g c =
    sym (walk_from-entry _ _ _ _ _ c.loop-value.bits _ _ _ c.loop-value.invariant.least c.entry_address.ensures.value c.in-Some.ensures.value c.in-Reserved.ensures.value)
    ∙ c.loop-value.invariant.walked

pub loop-value-preserved : goal.loop-value-preserved
loop-value-preserved g c = record {
  walked = rw c.join-bits.ensures
      (sym (walk_from-entry _ _ _ _ _ c.loop-value.bits _ _ _ c.loop-value.invariant.least c.entry_address.ensures.value c.in-Some.ensures.value c.in-Table.ensures.value)
      ∙ c.loop-value.invariant.walked);
  least = omega (arith, c.in-Table.ensures.level);
  most = omega arith;
  steps = omega (arith, c.in-Table.ensures.level);
  aligned = c.in-Table.ensures.frame.aligned;
  below = c.in-Table.ensures.frame.below;
}

pub returns-in-Leaf-clause-value : goal.returns-in-Leaf-clause-value
returns-in-Leaf-clause-value g c =
    rw (c.join.ensures, c.own_frame.ensures.value)
    (sym (walk_from-entry _ _ _ _ _ c.loop-value.bits _ _ _ c.loop-value.invariant.least c.entry_address.ensures.value c.in-Some.ensures.value c.in-Leaf.ensures.value)
    ∙ c.loop-value.invariant.walked)
