use Rattle.std.proofs.Common.{◌≡◌, ◌+◌, ◌-◌, ◌*◌, ◌%◌, ◌^◌, ◌<◌, ◌≤◌, None, sym, ap, ◌∙◌, subst, arith, rules}
use Rattle.std.proofs.Math.Nat.{le-max_right}
use Rattle.paging_model.specs.LinearAddress.{span}
use Rattle.phys_view.specs.Seen.{memory_of}
use Rattle.present_pages.specs.PresentRanges.{maps, IsThere}
use Rattle.audit_laws.specs.Firsts.{IsFirst}
use Rattle.present_pages.specs.StalePages.{IsStaleIn}
use Rattle.present_pages.proofs.FirstStales.{span-up, slot_begins, slot_ends, slot_next, slots-end, range-page, max-page, max-lt, none-shorter, none-joined, some-joined, of-page, of-slot}
use Rattle.present_pages.proofs.stale_pages.+first_stale.Goals as goal

pub overflow_add-first : goal.overflow_add-first
overflow_add-first g t c =
    let two : 2 ≤ c.args.range.level = (subst (IsThere c.args.range.level) c.in-Table.is c.requires.range.there).0 in
    let up : 512 * span (c.args.range.level - 1) ≡ span c.args.range.level = span-up c.args.range.level two in
    let ends = slot_ends (span (c.args.range.level - 1)) c.loop-i.i c.loop-i-test.true in
    let room = c.requires.range.ends in
    let some = c.span-step.ensures.some in
    let step = c.loop-i.invariant.step in
    let h : c.args.range.first + c.loop-i.i * c.span-step.result < 2 ^ 64 =
    rw step (let s : 0 < span (c.args.range.level - 1) = rw step at some in omega (arith, ends, room, up, s)) in
    search (rules, h)

pub slot_there-there-requires-clause-whole : goal.slot_there-there-requires-clause-whole
slot_there-there-requires-clause-whole g t c =
    let two : 2 ≤ c.args.range.level = (subst (IsThere c.args.range.level) c.in-Table.is c.requires.range.there).0 in
    let up : 512 * span (c.args.range.level - 1) ≡ span c.args.range.level = span-up c.args.range.level two in
    rw c.loop-i.invariant.step (slot_begins c.args.range.first c.loop-i.i (span (c.args.range.level - 1)) (rw up c.requires.range.whole))

pub first_stale-found-requires : goal.first_stale-found-requires
first_stale-found-requires g t c κs within =
    let two : 2 ≤ c.args.range.level = (subst (IsThere c.args.range.level) c.in-Table.is c.requires.range.there).0 in
    let up : 512 * span (c.args.range.level - 1) ≡ span c.args.range.level = span-up c.args.range.level two in
    let step = c.loop-i.invariant.step in
    let least : 1 ≤ c.args.range.level - 1 = omega (arith, two) in
    let whole : (c.args.range.first + c.loop-i.i * c.span-step.result) % span (c.args.range.level - 1) ≡ 0 =
    rw step (slot_begins c.args.range.first c.loop-i.i (span (c.args.range.level - 1)) (rw up c.requires.range.whole)) in
    let ends = slot_ends (span (c.args.range.level - 1)) c.loop-i.i c.loop-i-test.true in
    let room = c.requires.range.ends in
    let below : c.args.range.first + c.loop-i.i * c.span-step.result + span (c.args.range.level - 1) ≤ 2 ^ 64 = rw step (omega (arith, ends, room, up)) in
    let range = c.slot_there-there.ensures.range in
    let lower = c.requires.within in
    let high = c.requires.held.most in
    let from : c.args.range.first + c.loop-i.i * c.span-step.result ≤ c.max.result =
    rw c.max.ensures (le-max_right c.args.from (c.args.range.first + c.loop-i.i * c.span-step.result)) in
    let some = c.span-step.ensures.some in
    let begins = c.loop-i.invariant.begins in
    let before : c.max.result < c.args.range.first + c.loop-i.i * c.span-step.result + span (c.args.range.level - 1) =
    rw (c.max.ensures, ← step) (max-lt c.args.from (c.args.range.first + c.loop-i.i * c.span-step.result) (c.args.range.first + c.loop-i.i * c.span-step.result + c.span-step.result) begins (omega (arith, some))) in
    let aligned : c.max.result % 4096 ≡ 0 =
    rw c.max.ensures (max-page c.args.from (c.args.range.first + c.loop-i.i * c.span-step.result) c.requires.from.aligned (range-page (c.args.range.level - 1) (c.args.range.first + c.loop-i.i * c.span-step.result) whole)) in
    search rules

pub returns-then-is_some : goal.returns-then-is_some
returns-then-is_some g t c =
    let two : 2 ≤ c.args.range.level = (subst (IsThere c.args.range.level) c.in-Table.is c.requires.range.there).0 in
    let up : 512 * span (c.args.range.level - 1) ≡ span c.args.range.level = span-up c.args.range.level two in
    let step = c.loop-i.invariant.step in
    let ends = slot_ends (span (c.args.range.level - 1)) c.loop-i.i c.loop-i-test.true in
    let at = c.args.range.first + c.loop-i.i * c.span-step.result in
    let mapped = maps (memory_of c.args.view.now) c.args.settings.now c.args.range.level c.args.range.first c.args.range.there in
    let within : at + span (c.args.range.level - 1) ≤ c.args.range.first + span c.args.range.level = rw step (omega (arith, ends, up)) in
    let own = of-slot c.args.regs.now c.args.held.now (memory_of c.args.view.now) c.args.settings.now c.args.range.level c.args.range.first c.args.range.there c.in-Table.frame c.in-Table.bits c.in-Table.is
    (maps (memory_of c.args.view.now) c.args.settings.now (c.args.range.level - 1) at c.slot_there-there.result) c.args.from c.max.result at (at + span (c.args.range.level - 1))
    c.first_stale-found.result c.max.ensures c.slot_there-there.ensures.maps c.first_stale-found.ensures in
    some-joined c.args.regs.now c.args.held.now mapped c.args.from at (at + span (c.args.range.level - 1)) c.loop-i.invariant.none
    (c.args.range.first + span c.args.range.level) c.first_stale-found.result (sym c.is_some.ensures ∙ c.if-is_some.true) within own

pub loop-i-preserved : goal.loop-i-preserved
loop-i-preserved g t c =
    let at = c.args.range.first + c.loop-i.i * c.span-step.result in
    let mapped = maps (memory_of c.args.view.now) c.args.settings.now c.args.range.level c.args.range.first c.args.range.there in
    let own = of-slot c.args.regs.now c.args.held.now (memory_of c.args.view.now) c.args.settings.now c.args.range.level c.args.range.first c.args.range.there c.in-Table.frame c.in-Table.bits c.in-Table.is
    (maps (memory_of c.args.view.now) c.args.settings.now (c.args.range.level - 1) at c.slot_there-there.result) c.args.from c.max.result at (at + span (c.args.range.level - 1))
    c.first_stale-found.result c.max.ensures c.slot_there-there.ensures.maps c.first_stale-found.ensures in
    let next = slot_next c.args.range.first c.loop-i.i c.span-step.result in
    let begins = c.loop-i.invariant.begins in
    record {
      step = c.loop-i.invariant.step;
      begins = omega (arith, next, begins);
      none = subst (λ n. IsFirst (IsStaleIn c.args.regs.now c.args.held.now mapped c.args.from n) None) (ap (λ n. at + n) (sym c.loop-i.invariant.step) ∙ sym next)
          (none-joined c.args.regs.now c.args.held.now mapped c.args.from at (at + span (c.args.range.level - 1)) c.loop-i.invariant.none
          c.first_stale-found.result (sym c.is_some.ensures ∙ c.if-is_some.false) own);
    }

pub returns-in-Page : goal.returns-in-Page
returns-in-Page g t c =
    of-page c.args.regs.now c.args.held.now (memory_of c.args.view.now) c.args.settings.now c.args.range c.in-Page.page c.args.from c.excess_at-in-Page.result c.in-Page.is
    c.requires.range c.requires.within c.requires.held.most c.requires.from c.excess_at-in-Page.ensures

pub returns-after-loop-i : goal.returns-after-loop-i
returns-after-loop-i g t c =
    let two : 2 ≤ c.args.range.level = (subst (IsThere c.args.range.level) c.in-Table.is c.requires.range.there).0 in
    let up : 512 * span (c.args.range.level - 1) ≡ span c.args.range.level = span-up c.args.range.level two in
    let past = slots-end c.args.range.first c.loop-i.i c.span-step.result c.loop-i-test.false in
    none-shorter c.args.regs.now c.args.held.now (maps (memory_of c.args.view.now) c.args.settings.now c.args.range.level c.args.range.first c.args.range.there)
    c.args.from (c.args.range.first + span c.args.range.level) (c.args.range.first + c.loop-i.i * c.span-step.result)
    (subst (λ n. c.args.range.first + n ≤ c.args.range.first + c.loop-i.i * c.span-step.result) (ap (λ n. 512 * n) c.loop-i.invariant.step ∙ up) past)
    c.loop-i.invariant.none
