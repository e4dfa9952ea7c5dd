use Rattle.std.proofs.Common.{get_or, take, sym, ap, ◌∙◌, arith}
use Rattle.std.proofs.lemmas.List.{take_more}
use Rattle.cache_rules.specs.Removals.{removed_in}
use Rattle.time_sets.specs.Sets.{has_time}
use Rattle.held_times.proofs.HeldLaws.{interval-at, one-more}
use Rattle.held_times.proofs.times.held_times.Goals as goal

pub held_to-requires-clause-within : goal.held_to-requires-clause-within
held_to-requires-clause-within c =
    let list = c.intervals-first-items.result.now in
    let at = interval-at 0 list c.loop-first.first-index (0, 0) c.intervals-first-items.ensures.apart c.loop-first-test.true in
    c.requires.within _ (ap (λ times. has_time times (get_or list c.loop-first.first-index (0, 0)).1) (sym c.intervals-first-items.ensures.same) ∙ at.1)

pub add-requires : goal.add-requires
add-requires c =
    let at = interval-at 0 c.intervals-first-items.result.now c.loop-first.first-index (0, 0) c.intervals-first-items.ensures.apart c.loop-first-test.true in
    let order = at.0 in let end = c.held_to.ensures.order in omega (arith, order, end)

pub loop-first-preserved : goal.loop-first-preserved
loop-first-preserved c =
    let list = c.intervals-first-items.result.now in
    let i = c.loop-first.first-index in
    let at = interval-at 0 list i (0, 0) c.intervals-first-items.ensures.apart c.loop-first-test.true in
    record {
      held = rw (take_more c.intervals-first-items.result.now c.loop-first.first-index (0, 0) c.loop-first-test.true)
          (one-more (removed_in c.args.host.now.removals c.args.key.now) c.args.now (take i list) c.loop-first.held c.add.new.self
          (get_or list i (0, 0)) c.held_to.result at.0 c.held_to.ensures c.loop-first.invariant.held c.in_ok-add.ensures.members);
    }
