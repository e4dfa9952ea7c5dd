use Rattle.std.proofs.Common.{ap, ◌-◌, ◌≡◌, ◌+◌, ◌*◌, ◌%◌, ◌≤◌, arith, rules, refl}
use Rattle.std.proofs.lemmas.Result.{err_from_is_err_and}
use Rattle.paging_model.specs.LinearAddress.{span}
use Rattle.paging_model.specs.declared.entries.Bits.{Bits}
use Rattle.paging_laws.proofs.SlotRanges.{span_least}
use Rattle.phys_view.specs.Seen.{memory_of}
use Rattle.space_map.proofs.Spans.{pages_whole, span_whole}
use Rattle.space_map.proofs.SlotWalks.{read-entry, walked-none, walked-next, clear-next, exceeds-next, few-next, entry-walked, entry-exceeds, entry-few}
use Rattle.space_map.proofs.EntryWalks.{table-walked, below-walkable, clear-table, range-same, leaf-walked}
use Rattle.space_map.proofs.IndexWalks.{indexes-none, indexes-next, indexes-all, indexes-table, fresh-next, fresh-below, place-free}
use Rattle.space_map.proofs.walking.+walk.Goals as goal

pub walk_slots-loop-k-init : goal.walk_slots-loop-k-init
walk_slots-loop-k-init g t c = record {
  walked = walked-none (memory_of c.args.view.now) c.args.settings.now c.args.table c.args.from c.args.space.now;
  indexes = indexes-none (memory_of c.args.view.now) c.args.settings.now c.args.table c.args.from c.args.space.now;
  cost = omega arith;
  few = omega arith;
}

pub walk_slots-loop-k-preserved : goal.walk_slots-loop-k-preserved
walk_slots-loop-k-preserved g t c =
    let read = read-entry c.args.view.now c.entries-entries.result (c.args.table.frame + 8 * c.args.from) c.args.count c.loop-k.k c.get-value.result c.entries-entries.ensures.value c.get-value.ensures in
    record {
      walked = walked-next (memory_of c.args.view.now) c.args.settings.now c.args.table c.args.from c.loop-k.k c.args.space.now c.loop-k.space c.walk_entry.new.space
          c.loop-k.invariant.walked
          (entry-walked (memory_of c.args.view.now) c.args.settings.now c.args.table c.args.table.level (c.args.from + c.loop-k.k) c.get-value.result c.first_of-first.result
          refl c.requires.table.least c.requires.table.begins (omega arith) _ read (omega arith) c.first_of-first.ensures.value c.loop-k.space c.walk_entry.new.space
          c.in_ok-own.ensures.walk);
      indexes = indexes-next (memory_of c.args.view.now) c.args.settings.now c.args.table c.args.table.level c.args.from c.loop-k.k c.first_of-first.result c.get-value.result _
          c.loop-k.pages c.in_ok-own.own c.args.space.now c.loop-k.space c.walk_entry.new.space refl c.requires.table.least read (omega arith)
          c.first_of-first.ensures.value c.loop-k.invariant.indexes c.in_ok-own.ensures.index;
      cost = omega arith;
      few = omega (arith, c.loop-k.invariant.few, c.in_ok-own.ensures.one);
    }

pub walk_slots-returns-in_err-own-clause-walk : goal.walk_slots-returns-in_err-own-clause-walk
walk_slots-returns-in_err-own-clause-walk g t c =
    let read = read-entry c.args.view.now c.entries-entries.result (c.args.table.frame + 8 * c.args.from) c.args.count c.loop-k.k c.get-value.result c.entries-entries.ensures.value c.get-value.ensures in
    let failed = err_from_is_err_and c.from_residual.result c.from_residual.ensures.1 in
    rw (failed.1, failed.2) (λ too_large.
    exceeds-next (memory_of c.args.view.now) c.args.settings.now c.args.table c.args.from c.loop-k.k c.args.count c.args.space.now c.loop-k.space
    c.loop-k-test.true c.loop-k.invariant.walked
    (entry-exceeds (memory_of c.args.view.now) c.args.settings.now c.args.table c.args.table.level (c.args.from + c.loop-k.k) c.get-value.result c.first_of-first.result
    refl c.requires.table.least c.requires.table.begins (omega arith) _ read (omega arith) c.first_of-first.ensures.value c.loop-k.space
    (c.in_err-own.ensures.walk too_large)))

pub walk_slots-returns-in_err-own-clause-few : goal.walk_slots-returns-in_err-own-clause-few
walk_slots-returns-in_err-own-clause-few g t c =
    let read = read-entry c.args.view.now c.entries-entries.result (c.args.table.frame + 8 * c.args.from) c.args.count c.loop-k.k c.get-value.result c.entries-entries.ensures.value c.get-value.ensures in
    few-next (memory_of c.args.view.now) c.args.settings.now c.args.table c.args.from c.loop-k.k c.args.count c.args.space.now c.loop-k.space c.walk_entry.new.space
    c.loop-k-test.true c.loop-k.invariant.walked
    (entry-few (memory_of c.args.view.now) c.args.settings.now c.args.table c.args.table.level (c.args.from + c.loop-k.k) c.get-value.result c.first_of-first.result
    refl c.requires.table.least c.requires.table.begins (omega arith) _ read (omega arith) c.first_of-first.ensures.value c.loop-k.space c.walk_entry.new.space
    c.walk_entry.ensures.few)

pub walk_entry-walk_slots-requires : goal.walk_entry-walk_slots-requires
walk_entry-walk_slots-requires g t c κs within =
    let table = below-walkable (memory_of c.args.view.now) c.args.settings.now c.args.level c.args.first c.args.above c.in-Some.value c.in-Table.frame c.in-Table.bits
    c.requires.least c.in-Table.ensures.value c.requires.most c.in-Table.ensures.frame c.requires.begins c.requires.ends in
    let clear = clear-table (memory_of c.args.view.now) c.args.settings.now c.args.level c.args.first c.args.above c.in-Some.value c.in-Table.frame c.in-Table.bits
    c.requires.least c.in-Table.ensures.value c.args.space.now c.add_use.new.self c.in_ok-add_use-in-Table.ensures.added c.requires.clear in
    let fresh = fresh-below (memory_of c.args.view.now) c.args.settings.now c.args.level c.args.first c.args.above c.in-Some.value c.in-Table.frame c.in-Table.bits
    c.requires.least c.in-Table.ensures.value (record { level = c.args.level - 1; prefix = c.args.first; frame = c.in-Table.frame; bits = c.join.result })
    (ap (λ (it : Bits). record { level = c.args.level - 1; prefix = c.args.first; frame = c.in-Table.frame; bits = it }) c.join.ensures)
    c.args.space.now c.add_use.new.self c.in_ok-add_use-in-Table.ensures.added c.requires.fresh in
    let joins = c.join.ensures in
    search rules

pub walk_entry-index_table-requires-clause-free : goal.walk_entry-index_table-requires-clause-free
walk_entry-index_table-requires-clause-free g t c =
    place-free (memory_of c.args.view.now) c.args.settings.now c.args.level c.args.first c.args.above c.in-Some.value c.in-Table.frame c.in-Table.bits
    c.requires.least c.in-Table.ensures.value (record { level = c.args.level - 1; prefix = c.args.first; frame = c.in-Table.frame; bits = c.join.result })
    (ap (λ (it : Bits). record { level = c.args.level - 1; prefix = c.args.first; frame = c.in-Table.frame; bits = it }) c.join.ensures)
    c.in_ok-pages-in-Table.pages c.args.space.now c.add_use.new.self c.walk_slots.new.space c.in_ok-add_use-in-Table.ensures.added c.requires.fresh
    c.in_ok-pages-in-Table.ensures.index

pub walk_entry-returns-in_ok-index_table-in-Table-clause-index : goal.walk_entry-returns-in_ok-index_table-in-Table-clause-index
walk_entry-returns-in_ok-index_table-in-Table-clause-index g t c =
    rw c.in-Some.is
    (indexes-table (memory_of c.args.view.now) c.args.settings.now c.args.level c.args.first c.args.above c.in-Some.value c.in-Table.frame c.in-Table.bits
    c.requires.least c.in-Table.ensures.value (record { level = c.args.level - 1; prefix = c.args.first; frame = c.in-Table.frame; bits = c.join.result })
    (ap (λ (it : Bits). record { level = c.args.level - 1; prefix = c.args.first; frame = c.in-Table.frame; bits = it }) c.join.ensures)
    c.in_ok-pages-in-Table.pages c.args.space.now c.add_use.new.self c.walk_slots.new.space c.index_table.new.self c.in_ok-add_use-in-Table.ensures.added
    c.in_ok-pages-in-Table.ensures.index c.in_ok-index_table-in-Table.ensures.added c.index_table.ensures.leaves)

pub walk_entry-returns-in_ok-index_table-in-Table-clause-walk : goal.walk_entry-returns-in_ok-index_table-in-Table-clause-walk
walk_entry-returns-in_ok-index_table-in-Table-clause-walk g t c =
    let walked = rw c.join.ensures at c.in_ok-pages-in-Table.ensures.walk in
    rw c.in-Some.is
    (range-same _ _ _ _ _ _ c.walk_slots.new.space c.index_table.new.self c.index_table.ensures.regions c.index_table.ensures.uses c.index_table.ensures.leaves
    (table-walked (memory_of c.args.view.now) c.args.settings.now c.args.level c.args.first c.args.above c.in-Some.value c.in-Table.frame c.in-Table.bits
    c.requires.least c.in-Table.ensures.value c.args.space.now c.add_use.new.self c.walk_slots.new.space c.in_ok-add_use-in-Table.ensures.added walked))

pub walk_entry-returns-in_ok-add_page-in-Leaf-clause-walk : goal.walk_entry-returns-in_ok-add_page-in-Leaf-clause-walk
walk_entry-returns-in_ok-add_page-in-Leaf-clause-walk g t c =
    let pages : c.args.first % 4096 ≡ 0 = pages_whole (span c.args.level) c.args.first (span_whole c.args.level) c.requires.begins in
    let some : 1 ≤ span c.args.level = omega (arith, span_least c.args.level) in
    rw c.in-Some.is
    (leaf-walked (memory_of c.args.view.now) c.args.settings.now c.args.level c.args.first c.args.above c.in-Some.value c.in-Leaf.frame c.in-Leaf.bits c.in-Leaf.key c.in-Leaf.global
    c.in-Leaf.ensures.value c.args.space.now c.add_page.new.self c.page_region.result c.join-in-Leaf.result c.join-in-Leaf.ensures c.page_region.ensures.value
    c.requires.begins pages some c.in_ok-add_page-in-Leaf.ensures.added)

pub walk_slots-walk_entry-requires : goal.walk_slots-walk_entry-requires
walk_slots-walk_entry-requires g t c κs within =
    let fresh = fresh-next (memory_of c.args.view.now) c.args.settings.now c.args.table c.args.table.level c.args.from c.loop-k.k c.args.count c.first_of-first.result
    c.loop-k.pages c.args.space.now c.loop-k.space refl c.loop-k-test.true c.first_of-first.ensures.value c.loop-k.invariant.indexes c.requires.fresh in
    let clear = clear-next (memory_of c.args.view.now) c.args.settings.now c.args.table c.args.table.level c.args.from c.loop-k.k c.args.count c.first_of-first.result c.args.space.now c.loop-k.space
    refl c.loop-k-test.true c.first_of-first.ensures.value c.loop-k.invariant.walked c.requires.clear in
    search rules

pub walk_slots-returns-clause-index : goal.walk_slots-returns-clause-index
walk_slots-returns-clause-index g t c =
    let all : c.loop-k.k ≡ c.args.count = omega (arith, c.loop-k.auto.k-end, c.loop-k-test.false) in
    indexes-all (memory_of c.args.view.now) c.args.settings.now c.args.table c.args.from c.loop-k.k c.args.count c.loop-k.pages c.args.space.now c.loop-k.space all
    c.loop-k.invariant.indexes
