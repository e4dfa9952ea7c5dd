-- What may be held for an address depends on its prefix alone.
use Rattle.std.proofs.Common.{◌≡◌, ℕ, zero, suc, ◌+◌, ◌-◌, ◌*◌, ◌/◌, ◌^◌, sym, ap, ◌∙◌, refl, arith}
use Rattle.std.proofs.lemmas.Nat.{shr-shr}
use Rattle.paging_model.specs.Memory.{Memory}
use Rattle.paging_model.specs.LinearAddress.{span}
use Rattle.paging_model.specs.declared.entries.Bits.{Bits}
use Rattle.paging_model.specs.declared.registers.Machine.{Machine}
use Rattle.paging_model.specs.declared.registers.Regs.{Regs}
use Rattle.history_model.specs.History.{History}
use Rattle.history_model.specs.Invalidations.{kills}
use Rattle.history_model.specs.CachedTranslations.{Held, MayHold, kept, at_root, below, fill_of, cache_key}
use Rattle.history_model.specs.declared.caches.CacheKey.{CacheKey}

made-same : (memory : Memory) (machine : Machine) (known : Regs) (x y level table : ℕ) (above : Bits) → x / span level ≡ y / span level
    → fill_of memory machine known level x table above ≡ fill_of memory machine known level y table above
unfolding fill_of
made-same memory machine known x y level table above q = rw q refl

pub key_of-same : (c x y level : ℕ) (held : Held) → x / span level ≡ y / span level → cache_key c level x held ≡ cache_key c level y held
key_of-same c x y level held q =
    let key = λ (n : ℕ). let with_prefix : CacheKey = record { pcid = c; level = level; prefix = n * span level; leaf = held.leaf; global = held.global } in with_prefix in
    ap key q

-- one prefix at a level is one prefix at the level above
pub same_above : (level x y : ℕ) → x / span level ≡ y / span level → x / span (suc level) ≡ y / span (suc level)
same_above zero x y q = q
same_above (suc level) x y q =
    let k : 12 + 9 * (suc (suc level) - 1) ≡ 12 + 9 * (suc level - 1) + 9 = omega arith in
    rw (k, ← shr-shr x (12 + 9 * (suc level - 1)) 9, ← shr-shr y (12 + 9 * (suc level - 1)) 9) (ap (λ n. n / 2 ^ 9) q)

pub held-same : {p c x y : ℕ} {history : History} {level : ℕ} {held : Held}
    → x / span level ≡ y / span level → MayHold history p c level x held → MayHold history p c level y held
held-same {p = p} {c = c} {x = x} {y = y} q (kept happened {level = level} {held = held} {known = known} earlier is_known spares) =
    kept happened (held-same q earlier) is_known (ap (kills happened p known) (sym (key_of-same c x y level held q)) ∙ spares)
held-same {x = x} {y = y} q (at_root {level = level} is_known current top is_made) =
    at_root is_known current top (sym (made-same _ _ _ x y level _ _ q) ∙ is_made)
held-same {x = x} {y = y} q (below {level = level} above is_known current above_held references is_made) =
    below above is_known current (held-same (same_above level x y q) above_held) references (sym (made-same _ _ _ x y level _ _ q) ∙ is_made)
