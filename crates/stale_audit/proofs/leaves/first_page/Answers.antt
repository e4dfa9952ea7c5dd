use Rattle.std.proofs.Common.{◌+◌, ◌-◌, ◌*◌, ◌<◌, arith, subst}
use Rattle.std.proofs.lemmas.Nat.{pow_pos}
use Rattle.paging_model.specs.LinearAddress.{span}
use Rattle.phys_view.specs.Seen.{memory_of}
use Rattle.audit_laws.specs.Firsts.{IsFirst}
use Rattle.present_pages.specs.PresentRanges.{maps}
use Rattle.present_pages.specs.StalePages.{IsStaleIn}
use Rattle.stale_audit.specs.Facts.{Facts}
use Rattle.stale_audit.specs.SlotEntries.{held_page}
use Rattle.stale_audit.proofs.LeafLaws.{page-begins}
use Rattle.stale_audit.proofs.leaves.first_page.Goals as goal

pub first_stale-requires-clause-from : goal.first_stale-requires-clause-from
first_stale-requires-clause-from g c = record {
  least = omega arith;
  below = let some : 0 < span c.args.range.level = pow_pos (12 + 9 * (c.args.range.level - 1)) in omega (arith, some);
  aligned = page-begins c.args.range.level c.args.range.first c.requires.range.whole;
}

pub returns : goal.returns
returns g c =
    subst (λ (f : Facts). IsFirst (IsStaleIn f.host.regs (held_page c.args.range.level c.args.fill.now) (maps (memory_of f.seen) f.settings c.args.range.level c.args.range.first c.args.range.there)
    c.args.range.first (c.args.range.first + span c.args.range.level)) c.first_stale.result) c.point.view_is (rw c.regs.ensures at c.first_stale.ensures)
