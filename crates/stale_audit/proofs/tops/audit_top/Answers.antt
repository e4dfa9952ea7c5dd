use Rattle.std.proofs.Common.{◌≡◌, ◌+◌, None, sym, ◌∙◌, subst, arith, rules}
use Rattle.paging_model.specs.Walking.{top_level}
use Rattle.audit_laws.specs.Firsts.{IsFirst}
use Rattle.audit_laws.specs.Leads.{IsTimeOf}
use Rattle.stale_audit.specs.Facts.{Facts}
use Rattle.stale_audit.specs.SlotEntries.{is_in_use}
use Rattle.stale_audit.specs.SteadyTables.{HadOneNxe}
use Rattle.stale_audit.specs.Tops.{IsFoundBefore, top_first}
use Rattle.stale_audit.proofs.UnchangedLaws.{unchanged-root-to}
use Rattle.stale_audit.proofs.TopLaws.{from-all, top-begun, top-done, top-none, top-room, top-some}
use Rattle.stale_audit.proofs.tops.audit_top.Goals as goal

pub returns-then-is_some-clause-first : goal.returns-then-is_some-clause-first
returns-then-is_some-clause-first g c =
    from-all c.args.point.now c.args.in_use.now c.in_ok-table.table c.in_ok-table.ensures.split (top_level c.args.point.now.settings) c.args.root c.in_ok-found.found
    (top-some c.args.point.now (IsTimeOf (is_in_use c.in_ok-table.table)) (top_level c.args.point.now.settings) c.args.root (top-room c.args.point.now.settings) c.loop-i.i c.loop-i-test.true
    c.in_ok-found.found (sym c.is_some.ensures ∙ c.if-is_some.true) c.loop-i.invariant.none
    (rw (c.top_range-slot.ensures.level, c.top_range-slot.ensures.first, c.in_ok-table.ensures.bits, c.in_ok-table.ensures.frame) at c.in_ok-found.ensures.first))

pub loop-i-init : goal.loop-i-init
loop-i-init g c =
    let top : c.top_level-level.result ≡ top_level c.args.point.now.settings =
    subst (λ (f : Facts). c.top_level-level.result ≡ top_level f.settings) c.point.view_is c.top_level-level.ensures.value in
    record {
      within = c.in_ok-i.ensures.most;
      none = unchanged-root-to c.args.point.now (IsTimeOf (is_in_use c.in_ok-table.table)) c.top_level-level.result c.in_ok-table.table.frame c.args.root 0 c.in_ok-i.i
          c.requires.ready top c.top_level-level.ensures.least c.top_level-level.ensures.most c.in_ok-table.ensures.frame (omega arith) c.in_ok-i.ensures.most
          (λ some. let present = c.in_ok-i.ensures.present some in let one : HadOneNxe c.args.point.now = search rules in let home : c.args.root ≡ c.args.point.now.home = search rules in (one, home))
          c.in_ok-i.ensures.unchanged (top-begun c.args.point.now (IsTimeOf (is_in_use c.in_ok-table.table)) (top_level c.args.point.now.settings) c.args.root);
      known = c.in_ok-i.ensures.known;
    }

pub loop-i-preserved : goal.loop-i-preserved
loop-i-preserved g c =
    let top : c.top_level-level.result ≡ top_level c.args.point.now.settings =
    subst (λ (f : Facts). c.top_level-level.result ≡ top_level f.settings) c.point.view_is c.top_level-level.ensures.value in
    record {
      within = c.in_ok-i-2.ensures.most;
      none = unchanged-root-to c.args.point.now (IsTimeOf (is_in_use c.in_ok-table.table)) c.top_level-level.result c.in_ok-table.table.frame c.args.root (c.loop-i.i + 1) c.in_ok-i-2.i
          c.requires.ready top c.top_level-level.ensures.least c.top_level-level.ensures.most c.in_ok-table.ensures.frame c.in_ok-i-2.ensures.least c.in_ok-i-2.ensures.most
          (λ some. let present = c.in_ok-i-2.ensures.present some in let one : HadOneNxe c.args.point.now = search rules in let home : c.args.root ≡ c.args.point.now.home = search rules in (one, home))
          c.in_ok-i-2.ensures.unchanged
          (top-none c.args.point.now (IsTimeOf (is_in_use c.in_ok-table.table)) (top_level c.args.point.now.settings) c.args.root (top-room c.args.point.now.settings) c.loop-i.i c.loop-i-test.true
          c.in_ok-found.found (sym c.is_some.ensures ∙ c.if-is_some.false) c.loop-i.invariant.none
          (rw (c.top_range-slot.ensures.level, c.top_range-slot.ensures.first, c.in_ok-table.ensures.bits, c.in_ok-table.ensures.frame) at c.in_ok-found.ensures.first));
      known = c.in_ok-i-2.ensures.known;
    }

pub returns-clause-first : goal.returns-clause-first
returns-clause-first g c =
    let most = c.loop-i.invariant.within in let i : c.loop-i.i ≡ 512 = omega arith in
    from-all c.args.point.now c.args.in_use.now c.in_ok-table.table c.in_ok-table.ensures.split (top_level c.args.point.now.settings) c.args.root None
    (top-done c.args.point.now (IsTimeOf (is_in_use c.in_ok-table.table)) (top_level c.args.point.now.settings) c.args.root (top-room c.args.point.now.settings)
    (subst (λ n. IsFirst (IsFoundBefore c.args.point.now (IsTimeOf (is_in_use c.in_ok-table.table)) (top_level c.args.point.now.settings) c.args.root (top_first (top_level c.args.point.now.settings) n)) None) i c.loop-i.invariant.none))
