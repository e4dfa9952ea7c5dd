use Rattle.std.proofs.Common.{◌≡◌, ◌+◌, ◌-◌, ◌*◌, ◌<◌, None}
use Rattle.paging_model.specs.LinearAddress.{span}
use Rattle.audit_laws.specs.Firsts.{IsFirst}
use Rattle.phys_view.specs.Seen.{memory_of}
use Rattle.present_pages.specs.PresentRanges.{maps}
use Rattle.present_pages.specs.StalePages.{IsStaleIn}
use Rattle.present_pages.proofs.stale_pages.+first_stale.Given as goal

abbrev pub decreases-first_stale : goal.decreases-first_stale
decreases-first_stale g l = l.range.level

abbrev pub invariant-loop-i : goal.invariant-loop-i
invariant-loop-i g l = record {
  step : l.step ≡ span (l.range.level - 1);
  begins : l.from < l.range.first + l.i * l.step + l.step;
  none : IsFirst
      (IsStaleIn l.regs l.held (maps (memory_of l.view) l.settings l.range.level l.range.first l.range.there) l.from (l.range.first + l.i * l.step)) None;
}
