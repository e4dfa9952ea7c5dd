use Rattle.std.proofs.Common.{◌≡◌, ◌+◌, ◌-◌, ◌*◌, ◌⊎◌, None, Ok, ap, sym, ◌∙◌, subst, arith, rules}
use Rattle.std.proofs.lemmas.List.{take_all}
use Rattle.paging_model.specs.LinearAddress.{span}
use Rattle.audit_laws.specs.Firsts.{IsFirst}
use Rattle.audit_laws.specs.Leads.{IsTimeOf}
use Rattle.audit_laws.specs.declared.stale_pages.StalePage.{StalePage}
use Rattle.time_sets.specs.Sets.{has_time}
use Rattle.stale_audit.specs.Findings.{IsFoundIn, IsFoundUnder, IsLeafFoundIn}
use Rattle.stale_audit.specs.SlotEntries.{AreTablesBelow, is_in_use}
use Rattle.stale_audit.specs.declared.tables.HeldTable.{HeldTable}
use Rattle.stale_audit.proofs.UnchangedLaws.{begun, unchanged-to}
use Rattle.stale_audit.proofs.RangeLaws.{span-up}
use Rattle.stale_audit.proofs.ReferenceLaws.{table-at}
use Rattle.stale_audit.proofs.TableLaws.{first-all, if_ok-more, slot-first, table-none, table-some, under-begun, under-more}
use Rattle.stale_audit.proofs.descent.+audit.Goals as goal

pub audit_below-returns-clause-first : goal.audit_below-returns-clause-first
audit_below-returns-clause-first g t c = if_ok-more _ _ c.audit_table.result
    (λ found is. first-all c.args.point.now c.args.in_use.now c.in_ok-timed.timed c.in_ok-timed.ensures.split
    c.args.range.first (c.args.range.first + span c.args.range.level) (c.args.range.level - 1) c.args.table c.args.bits found
    (rw (c.in_ok-timed.ensures.frame, c.in_ok-timed.ensures.bits) at is)) c.audit_table.ensures.first

pub audit_slot-loop-lower-init : goal.audit_slot-loop-lower-init
audit_slot-loop-lower-init g t c = record {
  first = under-begun c.args.point.now c.args.range.first (c.args.range.first + span c.args.range.level) (c.args.range.level - 1)
      (IsLeafFoundIn c.args.point.now c.args.range.first (c.args.range.first + span c.args.range.level) (IsTimeOf (is_in_use c.args.table.now)) c.args.range.level c.args.table.now.frame c.args.table.now.bits)
      c.in_ok-slot.slot.found c.in_ok-slot.ensures.slot.found;
  known = c.requires.known;
}

pub audit_slot-loop-lower-preserved : goal.audit_slot-loop-lower-preserved
audit_slot-loop-lower-preserved g t c = record {
  first = rw c.first_of_two-best.ensures
      (under-more c.args.point.now c.args.range.first (c.args.range.first + span c.args.range.level) (c.args.range.level - 1)
      c.deref-lower-items.result.now c.loop-lower.lower-index c.lower-item.result
      (IsLeafFoundIn c.args.point.now c.args.range.first (c.args.range.first + span c.args.range.level) (IsTimeOf (is_in_use c.args.table.now)) c.args.range.level c.args.table.now.frame c.args.table.now.bits)
      c.loop-lower.best c.in_ok-found.found c.loop-lower-test.true c.loop-lower.invariant.first
      (subst (λ (one : HeldTable). IsFirst (IsFoundIn c.args.point.now c.args.range.first (c.args.range.first + span c.args.range.level) (IsTimeOf (has_time one.times)) (c.args.range.level - 1) one.frame one.bits) c.in_ok-found.found)
      c.lower-item.is c.in_ok-found.ensures.first));
  known = c.audit_below.ensures.known;
}

pub audit_slot-audit_below-requires : goal.audit_slot-audit_below-requires
audit_slot-audit_below-requires g t c κs within =
    let lower = table-at c.args.range.level c.deref-lower-items.result.now c.loop-lower.lower-index c.lower-item.result c.loop-lower-test.true c.lower-item.is
    (subst (AreTablesBelow c.args.range.level) (sym c.deref-lower-items.ensures.value) c.in_ok-slot.ensures.tables) in
    let two = lower.0 in let frame = lower.1 in
    let ready = c.requires.ready in let range = c.requires.range in let home = c.requires.home in let most = c.requires.most in let known = c.loop-lower.invariant.known in
    search rules

pub audit_slot-returns-clause-first : goal.audit_slot-returns-clause-first
audit_slot-returns-clause-first g t c =
    slot-first c.args.point.now c.args.range.first (IsTimeOf (is_in_use c.args.table.now)) c.args.range.level c.args.table.now.frame c.args.table.now.bits c.in_ok-slot.slot c.loop-lower.best
    c.requires.range.least c.in_ok-slot.ensures.slot
    (subst (λ list. IsFirst (λ (one : StalePage). IsLeafFoundIn c.args.point.now c.args.range.first (c.args.range.first + span c.args.range.level) (IsTimeOf (is_in_use c.args.table.now)) c.args.range.level c.args.table.now.frame c.args.table.now.bits one
    ⊎ IsFoundUnder c.args.point.now c.args.range.first (c.args.range.first + span c.args.range.level) (c.args.range.level - 1) list one) c.loop-lower.best)
    (take_all c.loop-lower.lower-index c.deref-lower-items.result.now c.loop-lower-test.false ∙ c.deref-lower-items.ensures.value) c.loop-lower.invariant.first)

pub audit_table-returns-then-is_some-clause-first : goal.audit_table-returns-then-is_some-clause-first
audit_table-returns-then-is_some-clause-first g t c =
    subst (λ n. IsFirst (IsFoundIn c.args.point.now c.args.range.first (c.args.range.first + n) (IsTimeOf (is_in_use c.args.table.now)) (c.args.range.level - 1) c.args.table.now.frame c.args.table.now.bits) c.in_ok-found.found)
    (span-up c.args.range.level c.requires.least)
    (table-some c.args.point.now c.args.range.first (span (c.args.range.level - 1)) c.loop-i.i (IsTimeOf (is_in_use c.args.table.now)) (c.args.range.level - 1) c.args.table.now.frame c.args.table.now.bits
    c.in_ok-found.found c.loop-i-test.true (sym c.is_some.ensures ∙ c.if-is_some.true) c.loop-i.invariant.none
    (rw (c.slot_range-slot.ensures.level, c.slot_range-slot.ensures.first) at c.in_ok-found.ensures.first))

pub audit_table-loop-i-init : goal.audit_table-loop-i-init
audit_table-loop-i-init g t c = record {
  within = c.in_ok-i.ensures.most;
  none = unchanged-to c.args.point.now (IsTimeOf (is_in_use c.args.table.now)) c.args.range.level c.args.range.first c.args.table.now.frame 0 c.in_ok-i.i c.args.table.now.bits
      c.requires.ready c.requires.least c.requires.range.whole (omega arith) c.in_ok-i.ensures.most
      (λ some. c.requires.walked (c.in_ok-i.ensures.present some)) c.in_ok-i.ensures.unchanged
      (begun c.args.point.now (IsTimeOf (is_in_use c.args.table.now)) (c.args.range.level - 1) c.args.range.first (span (c.args.range.level - 1)) c.args.table.now.frame c.args.table.now.bits);
  known = c.in_ok-i.ensures.known;
}

pub audit_table-loop-i-preserved : goal.audit_table-loop-i-preserved
audit_table-loop-i-preserved g t c = record {
  within = c.in_ok-i-2.ensures.most;
  none = unchanged-to c.args.point.now (IsTimeOf (is_in_use c.args.table.now)) c.args.range.level c.args.range.first c.args.table.now.frame (c.loop-i.i + 1) c.in_ok-i-2.i c.args.table.now.bits
      c.requires.ready c.requires.least c.requires.range.whole c.in_ok-i-2.ensures.least c.in_ok-i-2.ensures.most
      (λ some. c.requires.walked (c.in_ok-i-2.ensures.present some)) c.in_ok-i-2.ensures.unchanged
      (table-none c.args.point.now c.args.range.first (span (c.args.range.level - 1)) c.loop-i.i (IsTimeOf (is_in_use c.args.table.now)) (c.args.range.level - 1) c.args.table.now.frame c.args.table.now.bits
      c.in_ok-found.found c.loop-i-test.true (sym c.is_some.ensures ∙ c.if-is_some.false) c.loop-i.invariant.none
      (rw (c.slot_range-slot.ensures.level, c.slot_range-slot.ensures.first) at c.in_ok-found.ensures.first));
  known = c.in_ok-i-2.ensures.known;
}

pub audit_table-returns-clause-first : goal.audit_table-returns-clause-first
audit_table-returns-clause-first g t c =
    let most = c.loop-i.invariant.within in let i : c.loop-i.i ≡ 512 = omega arith in
    subst (λ n. IsFirst (IsFoundIn c.args.point.now c.args.range.first (c.args.range.first + n) (IsTimeOf (is_in_use c.args.table.now)) (c.args.range.level - 1) c.args.table.now.frame c.args.table.now.bits) None)
    (span-up c.args.range.level c.requires.least)
    (subst (λ n. IsFirst (IsFoundIn c.args.point.now c.args.range.first (c.args.range.first + n * span (c.args.range.level - 1)) (IsTimeOf (is_in_use c.args.table.now)) (c.args.range.level - 1) c.args.table.now.frame c.args.table.now.bits) None)
    i c.loop-i.invariant.none)

pub audit_below-returns-then-branch-clause-first : goal.audit_below-returns-then-branch-clause-first
audit_below-returns-then-branch-clause-first g t c one = c.in_ok-is_settled.ensures.settled (ap Ok c.if-branch.true) c.args.in_use.now one
