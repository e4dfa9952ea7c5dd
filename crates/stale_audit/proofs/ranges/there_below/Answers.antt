use Rattle.std.proofs.Common.{◌≡◌, ◌+◌, ◌-◌, ◌%◌, ◌<◌, ◌≤◌, ℕ, ap, ◌∙◌, subst}
use Rattle.paging_model.specs.LinearAddress.{span}
use Rattle.paging_model.specs.Translations.{raw_target_of}
use Rattle.paging_model.specs.Walking.{walk_from}
use Rattle.phys_view.specs.Seen.{memory_of}
use Rattle.present_pages.specs.PresentRanges.{IsThere, maps}
use Rattle.present_pages.specs.declared.ranges.There.{There}
use Rattle.stale_audit.specs.Facts.{Facts, IsOfHome}
use Rattle.stale_audit.proofs.RangeLaws.{nothing-home, page-home, page-there, slot-begins, table-home}
use Rattle.stale_audit.proofs.ranges.there_below.Goals as goal

pub slot_there-requires-clause-whole : goal.slot_there-requires-clause-whole
slot_there-requires-clause-whole g c = ap (λ n. n % span (c.args.range.level - 1)) c.requires.first
    ∙ slot-begins c.args.range.level c.args.range.first c.args.i c.requires.least c.requires.slot c.requires.range.whole

pub returns-in-Nothing-clause-home : goal.returns-in-Nothing-clause-home
returns-in-Nothing-clause-home g c =
    nothing-home c.args.point.now c.args.range.level c.args.range.first c.args.i c.args.first c.requires.least c.requires.slot c.requires.first
    (subst (λ (t : There). IsOfHome c.args.point.now (record { level = c.args.range.level; first = c.args.range.first; there = t })) c.in-Nothing.is c.requires.home)

pub returns-in-Page-clause-there : goal.returns-in-Page-clause-there
returns-in-Page-clause-there g c =
    page-there c.args.point.now c.args.range.level c.args.range.first c.args.i c.args.first c.requires.least c.requires.slot c.requires.first c.in-Page.page
    (subst (IsThere c.args.range.level) c.in-Page.is c.requires.range.there)

pub returns-in-Page-clause-home : goal.returns-in-Page-clause-home
returns-in-Page-clause-home g c =
    page-home c.args.point.now c.args.range.level c.args.range.first c.args.i c.args.first c.requires.least c.requires.slot c.requires.first c.in-Page.page
    (subst (λ (t : There). IsOfHome c.args.point.now (record { level = c.args.range.level; first = c.args.range.first; there = t })) c.in-Page.is c.requires.home)

pub returns-in-Table-clause-home : goal.returns-in-Table-clause-home
returns-in-Table-clause-home g c =
    table-home c.args.point.now c.args.range.level c.args.range.first c.args.i c.args.first c.requires.least c.requires.slot c.requires.first c.in-Table.frame c.in-Table.bits c.slot_there.result
    (subst (λ (t : There). IsOfHome c.args.point.now (record { level = c.args.range.level; first = c.args.range.first; there = t })) c.in-Table.is c.requires.home)
    (subst (λ (f : Facts). (x : ℕ) → c.args.first ≤ x → x < c.args.first + span (c.args.range.level - 1) → x % 4096 ≡ 0
    → maps (memory_of f.seen) f.settings (c.args.range.level - 1) c.args.first c.slot_there.result x
    ≡ raw_target_of (walk_from (memory_of f.seen) f.settings (c.args.range.level - 1) x c.in-Table.frame c.in-Table.bits)) c.point.view_is c.slot_there.ensures.maps)
