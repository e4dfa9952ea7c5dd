use Rattle.std.proofs.Common.{rules, of_calls, arith, ap, ◌∙◌, ◌-◌, ◌^◌}
use Rattle.std.specs.Prelude.{nat_le, unwrap_or}
use Rattle.std.proofs.lemmas.List.{take_rest}
use Rattle.std.proofs.lemmas.List.Sorted.{IsPartitionedBy-leb}
use Rattle.std.proofs.lemmas.Fn.{always_returns_same}
use Rattle.elf_core.specs.Changes.{first_from}
use Rattle.elf_core.proofs.Searching.{ascends_by_pairs, stays_until}
use Rattle.elf_core.proofs.changes.owner_until.Goals as goal

pub returns : goal.returns
returns c =
    let changes = c.args.changes.now in
    let passed = c.partition_point-passed.result in
    let sorted = IsPartitionedBy-leb (λ change. change.from) changes c.args.at (ascends_by_pairs changes _ _ c.requires) in
    let point = c.partition_point-passed.ensures.partitioned (λ change. nat_le change.from c.args.at) (search (rules, of_calls, always_returns_same)) sorted in
    let end = c.unwrap_or-end.ensures ∙ ap (λ first. unwrap_or first (2 ^ 64 - 1)) (c.first_from.ensures ∙ ap first_from (take_rest changes passed)) in
    rw c.last_owner.ensures (stays_until changes c.args.at passed c.unwrap_or-end.result (omega arith) c.requires c.partition_point-passed.ensures.bound point end)
