use Rattle.std.proofs.Common.{◌≡◌, true, refl, sym, subst}
use Rattle.std.specs.Prelude.{◌↔◌}
use Rattle.history_model.specs.declared.caches.CacheKey.{CacheKey}
use Rattle.cache_rules.specs.Removals.{removed_in}
use Rattle.held_times.specs.HeldTimes.{IsHeldAt}
use Rattle.time_sets.specs.Sets.{has_time}
use Rattle.stale_audit.specs.Facts.{Facts}
use Rattle.stale_audit.proofs.EntryLaws.{clash}
use Rattle.stale_audit.proofs.ReferenceLaws.{listed-more, listed-same, tables-more}
use Rattle.stale_audit.proofs.tables.add_table.Goals as goal

pub returns-then-is_empty-clause-listed : goal.returns-then-is_empty-clause-listed
returns-then-is_empty-clause-listed g c =
    listed-same c.args.point.now c.args.level c.args.first (record { fill = c.args.fill.now; times = c.args.made.now }) c.args.tables.now.items
    (λ u kept.
    let held : has_time c.in_ok-times.times u ≡ true ↔ IsHeldAt (removed_in c.args.point.now.host.removals c.key_of-key.result) c.args.made.now c.args.point.now.end u =
    subst (λ (f : Facts). has_time c.in_ok-times.times u ≡ true ↔ IsHeldAt (removed_in f.host.removals c.key_of-key.result) c.args.made.now f.end u) c.point.view_is (c.in_ok-times.ensures u) in
    clash (has_time c.in_ok-times.times u)
    (held.1 (subst (λ (key : CacheKey). IsHeldAt (removed_in c.args.point.now.host.removals key) c.args.made.now c.args.point.now.end u) (sym c.key_of-key.ensures.key) kept))
    (c.if-is_empty.ensures.0 refl u))

pub returns-clause-listed : goal.returns-clause-listed
returns-clause-listed g c = rw c.in_ok-push.ensures.items
    (listed-more c.args.point.now c.args.level c.args.first (record { fill = c.args.fill.now; times = c.args.made.now }) c.args.tables.now.items c.in_ok-times.times c.if-fill.false
    (λ u.
    subst (λ (key : CacheKey). has_time c.in_ok-times.times u ≡ true ↔ IsHeldAt (removed_in c.args.point.now.host.removals key) c.args.made.now c.args.point.now.end u) c.key_of-key.ensures.key
    (subst (λ (f : Facts). has_time c.in_ok-times.times u ≡ true ↔ IsHeldAt (removed_in f.host.removals c.key_of-key.result) c.args.made.now f.end u) c.point.view_is (c.in_ok-times.ensures u))))

pub returns-clause-below : goal.returns-clause-below
returns-clause-below g c =
    let table = c.requires.fits.table c.if-fill.false in
    rw c.in_ok-push.ensures.items (tables-more c.args.level c.args.tables.now.items (record { frame = c.args.fill.now.frame; bits = c.args.fill.now.bits; times = c.in_ok-times.times }) table.0 table.1)
