use Rattle.std.proofs.Common.{rules, of_calls}
use Rattle.std.specs.Prelude.{nat_lt}
use Rattle.std.proofs.lemmas.List.Sorted.{IsPartitionedBy-ltb}
use Rattle.std.proofs.lemmas.Fn.{always_returns_same}
use Rattle.time_sets.proofs.Searches.{apart-ascends, less-of_test, at_least-of_test}
use Rattle.time_sets.proofs.intervals.count_before.Goals as goal

pub returns-clause-point : goal.returns-clause-point
returns-clause-point c =
    let list = c.args.intervals.now in
    let sorted = IsPartitionedBy-ltb (λ one. one.1) list c.args.t (apart-ascends 0 list c.requires) in
    let point = c.partition_point.ensures.partitioned (λ one. nat_lt one.1 c.args.t) (search (rules, of_calls, always_returns_same)) sorted in
    (λ k d low high. less-of_test _ _ (point.0 k d low high), λ k d low high. at_least-of_test _ _ (point.1 k d low high))
