use Rattle.std.proofs.Common.{◌≡◌, ◌+◌, ◌%◌, ◌<◌, ◌≤◌, ℕ, subst}
use Rattle.paging_model.specs.Entries.{root_bits}
use Rattle.paging_model.specs.LinearAddress.{span}
use Rattle.paging_model.specs.Translations.{raw_target_of}
use Rattle.paging_model.specs.Walking.{walk_from}
use Rattle.phys_view.specs.Seen.{memory_of}
use Rattle.present_pages.specs.PresentRanges.{maps}
use Rattle.stale_audit.specs.Facts.{Facts}
use Rattle.stale_audit.proofs.RangeLaws.{top-home}
use Rattle.stale_audit.proofs.ranges.top_range.Goals as goal

pub returns-clause-home : goal.returns-clause-home
returns-clause-home g c = top-home c.args.point.now c.top_level-level.result c.top_first-first.result c.slot_there-there.result
    (subst (λ (f : Facts). c.top_level-level.result ≡ Rattle.paging_model.specs.Walking.top_level f.settings) c.point.view_is c.top_level-level.ensures.value)
    (subst (λ (f : Facts). (x : ℕ) → c.top_first-first.result ≤ x → x < c.top_first-first.result + span c.top_level-level.result → x % 4096 ≡ 0
    → maps (memory_of f.seen) f.settings c.top_level-level.result c.top_first-first.result c.slot_there-there.result x
    ≡ raw_target_of (walk_from (memory_of f.seen) f.settings c.top_level-level.result x f.home root_bits)) c.point.view_is c.slot_there-there.ensures.maps)
