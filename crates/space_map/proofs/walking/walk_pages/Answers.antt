use Rattle.std.proofs.Common.{◌+◌, ◌*◌, arith, refl, sym}
use Rattle.std.proofs.lemmas.Result.{err_from_is_err_and}
use Rattle.phys_view.specs.Seen.{memory_of}
use Rattle.space_map.proofs.SlotWalks.{read-entry, walked-none, walked-next, clear-next, exceeds-next, entry-walked, entry-exceeds}
use Rattle.space_map.proofs.IndexWalks.{indexes-none, indexes-next}
use Rattle.space_map.proofs.walking.walk_pages.Goals as goal

pub loop-k-init : goal.loop-k-init
loop-k-init g c = record {
  walked = walked-none (memory_of c.args.view.now) c.args.settings.now c.args.table c.args.from c.args.space.now;
  indexes = indexes-none (memory_of c.args.view.now) c.args.settings.now c.args.table c.args.from c.args.space.now;
  uses = refl;
  few = omega arith;
}

pub walk_page-requires-clause-clear : goal.walk_page-requires-clause-clear
walk_page-requires-clause-clear g c =
    clear-next (memory_of c.args.view.now) c.args.settings.now c.args.table 1 c.args.from c.loop-k.k c.args.count c.first_of-first.result c.args.space.now c.loop-k.space
    (sym c.requires.last) c.loop-k-test.true c.first_of-first.ensures.value c.loop-k.invariant.walked c.requires.clear

pub loop-k-preserved : goal.loop-k-preserved
loop-k-preserved g c =
    let read = read-entry c.args.view.now c.entries-entries.result (c.args.table.frame + 8 * c.args.from) c.args.count c.loop-k.k c.get-value.result c.entries-entries.ensures.value c.get-value.ensures in
    record {
      walked = walked-next (memory_of c.args.view.now) c.args.settings.now c.args.table c.args.from c.loop-k.k c.args.space.now c.loop-k.space c.walk_page.new.space
          c.loop-k.invariant.walked
          (entry-walked (memory_of c.args.view.now) c.args.settings.now c.args.table 1 (c.args.from + c.loop-k.k) c.get-value.result c.first_of-first.result
          (sym c.requires.last) c.requires.table.least c.requires.table.begins (omega arith) _ read (omega arith) c.first_of-first.ensures.value c.loop-k.space c.walk_page.new.space
          (c.in_ok-own.ensures.walk (memory_of c.args.view.now)));
      indexes = indexes-next (memory_of c.args.view.now) c.args.settings.now c.args.table 1 c.args.from c.loop-k.k c.first_of-first.result c.get-value.result _
          c.loop-k.pages c.in_ok-own.own c.args.space.now c.loop-k.space c.walk_page.new.space (sym c.requires.last) c.requires.table.least read (omega arith)
          c.first_of-first.ensures.value c.loop-k.invariant.indexes (c.in_ok-own.ensures.index (memory_of c.args.view.now));
      uses = omega arith;
      few = omega (arith, c.loop-k.invariant.few, c.in_ok-own.ensures.one);
    }

pub returns-in_err-own-clause-walk : goal.returns-in_err-own-clause-walk
returns-in_err-own-clause-walk g c =
    let read = read-entry c.args.view.now c.entries-entries.result (c.args.table.frame + 8 * c.args.from) c.args.count c.loop-k.k c.get-value.result c.entries-entries.ensures.value c.get-value.ensures in
    let failed = err_from_is_err_and c.from_residual.result c.from_residual.ensures.1 in
    rw (failed.1, failed.2) (λ too_large.
    exceeds-next (memory_of c.args.view.now) c.args.settings.now c.args.table c.args.from c.loop-k.k c.args.count c.args.space.now c.loop-k.space
    c.loop-k-test.true c.loop-k.invariant.walked
    (entry-exceeds (memory_of c.args.view.now) c.args.settings.now c.args.table 1 (c.args.from + c.loop-k.k) c.get-value.result c.first_of-first.result
    (sym c.requires.last) c.requires.table.least c.requires.table.begins (omega arith) _ read (omega arith) c.first_of-first.ensures.value c.loop-k.space
    (c.in_err-own.ensures.walk (memory_of c.args.view.now) too_large)))
