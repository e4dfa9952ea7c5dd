use Rattle.std.proofs.Common.{arith}
use Rattle.elf_core.proofs.Searching.{stays_by_changes}
use Rattle.elf_core.proofs.Stretching.{stay-within, stay-around, run_of_segment, run_of_none}
use Rattle.elf_core.proofs.stretches.stretch_by_changes.Goals as goal

pub bounds-segments-index : goal.bounds-segments-index
bounds-segments-index c =
    let stay = stays_by_changes _ _ _ _ _ _ c.requires.changes c.owner_until-owner.ensures c.in-Some.is in
    stay-within _ _ _ _ stay

pub offset_bounds-segments-index : goal.offset_bounds-segments-index
offset_bounds-segments-index c =
    let stay = stays_by_changes _ _ _ _ _ _ c.requires.changes c.owner_until-owner.ensures c.in-Some.is in
    let within = stay-within _ _ _ _ stay in omega arith

pub overflow_sub-bytes : goal.overflow_sub-bytes
overflow_sub-bytes c =
    let stay = stays_by_changes _ _ _ _ _ _ c.requires.changes c.owner_until-owner.ensures c.in-Some.is in
    (stay-around _ _ _ _ _ stay).0

pub slice_bounds-bytes-count : goal.slice_bounds-bytes-count
slice_bounds-bytes-count c =
    let stay = stays_by_changes _ _ _ _ _ _ c.requires.changes c.owner_until-owner.ensures c.in-Some.is in
    (stay-around _ _ _ _ _ stay).1

pub slice_bounds-bytes-start : goal.slice_bounds-bytes-start
slice_bounds-bytes-start c =
    let stay = stays_by_changes _ _ _ _ _ _ c.requires.changes c.owner_until-owner.ensures c.in-Some.is in
    (stay-around _ _ _ _ _ stay).1

pub returns-in-Some : goal.returns-in-Some
returns-in-Some c =
    let stay = stays_by_changes _ _ _ _ _ _ c.requires.changes c.owner_until-owner.ensures c.in-Some.is in
    run_of_segment _ _ _ _ _ _ c.requires.placed stay c.min.ensures

pub returns-in-None : goal.returns-in-None
returns-in-None c =
    let stay = stays_by_changes _ _ _ _ _ _ c.requires.changes c.owner_until-owner.ensures c.in-None.is in
    rw c.max.ensures (run_of_none _ _ _ stay)
