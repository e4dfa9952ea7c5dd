use Rattle.std.proofs.Common.{ℕ, Bool, sym, ap, ◌∙◌}
use Rattle.history_model.specs.declared.caches.CacheKey.{CacheKey}
use Rattle.stale_audit.specs.Facts.{Facts}
use Rattle.stale_audit.proofs.LeafLaws.{prefix-first}
use Rattle.stale_audit.proofs.point.Point.key_of.Goals as goal

abbrev key-with : ℕ → ℕ → ℕ → Bool → Bool → CacheKey
key-with pcid level prefix leaf global = record { pcid = pcid; level = level; prefix = prefix; leaf = leaf; global = global }

pub returns-clause-key : goal.returns-clause-key
returns-clause-key g c =
    ap (λ (f : Facts). key-with f.under c.args.level c.args.first c.args.fill.now.leaf c.args.fill.now.global) c.self.view_is
    ∙ ap (λ n. key-with c.args.self.now.under c.args.level n c.args.fill.now.leaf c.args.fill.now.global) (sym (prefix-first c.args.level c.args.first c.requires))
