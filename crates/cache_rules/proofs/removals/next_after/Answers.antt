use Rattle.std.proofs.Common.{rules, of_calls}
use Rattle.std.specs.Prelude.{nat_le}
use Rattle.std.proofs.lemmas.List.Sorted.{IsPartitionedBy-leb}
use Rattle.std.proofs.lemmas.List.{take_rest}
use Rattle.std.proofs.lemmas.Fn.{always_returns_same}
use Rattle.cache_rules.specs.declared.removals.Removed.{Removed}
use Rattle.cache_rules.proofs.Orders.{ascending-sorted, at_most-of_test, greater-of_test}
use Rattle.cache_rules.proofs.Nexts.{next-from}
use Rattle.cache_rules.proofs.removals.next_after.Goals as goal

pub returns : goal.returns
returns c =
    let removals = c.args.removals.now in
    let place = c.partition_point-later.result in
    let sorted = IsPartitionedBy-leb (λ (one : Removed). one.time) removals c.args.t (ascending-sorted (λ (one : Removed). one.time) 0 removals c.requires.ascending) in
    let point = c.partition_point-later.ensures.partitioned (λ (one : Removed). nat_le one.time c.args.t) (search (rules, of_calls, always_returns_same)) sorted in
    let next = next-from 0 removals c.args.key.now c.args.t place c.requires.ascending c.partition_point-later.ensures.bound
    (λ k d low high. at_most-of_test _ _ (point.0 k d low high)) (λ k d low high. greater-of_test _ _ (point.1 k d low high)) in
    rw (c.first_time.ensures, take_rest removals place) next
