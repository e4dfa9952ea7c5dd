use Rattle.std.proofs.Common.{arith, false}
use Rattle.std.proofs.lemmas.List.{get_or-replicate, length-replicate}
use Rattle.version_store.proofs.changed_slots.ChangedSlots.none.Goals as goal

pub invariant_of-result : goal.invariant_of-result
invariant_of-result c = record {
  slots_len = length-replicate 512 false;
  groups_len = length-replicate 32 false;
  unchanged = λ i below none. get_or-replicate 512 i false false below;
  within = omega arith;
  after = λ i below end. get_or-replicate 512 i false false below;
}

pub returns-clause-value : goal.returns-clause-value
returns-clause-value c i below = get_or-replicate 512 i false false below
