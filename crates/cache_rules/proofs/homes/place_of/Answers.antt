use Rattle.std.proofs.Common.{rules, of_calls, ℕ}
use Rattle.std.specs.Prelude.{nat_lt}
use Rattle.std.proofs.lemmas.List.Sorted.{IsPartitionedBy-ltb}
use Rattle.std.proofs.lemmas.Fn.{always_returns_same}
use Rattle.cache_rules.proofs.Orders.{ascending-sorted, less-of_test, at_least-of_test}
use Rattle.cache_rules.proofs.homes.place_of.Goals as goal

pub returns-clause-point : goal.returns-clause-point
returns-clause-point c =
    let homes = c.args.homes.now in
    let sorted = IsPartitionedBy-ltb (λ (one : ℕ × ℕ). one.0) homes c.args.pcid (ascending-sorted (λ (one : ℕ × ℕ). one.0) 0 homes c.requires) in
    let point = c.partition_point.ensures.partitioned (λ (one : ℕ × ℕ). nat_lt one.0 c.args.pcid) (search (rules, of_calls, always_returns_same)) sorted in
    (λ k d low high. less-of_test _ _ (point.0 k d low high), λ k d low high. at_least-of_test _ _ (point.1 k d low high))
