-- What is spared since a moment was made no earlier than the horizon.
use Rattle.std.proofs.Common.{◌≡◌, ℕ, ◌+◌, ◌≤◌, ◌&&◌, Bool, true, false, Some, refl, ap, ◌∙◌, arith}
use Rattle.std.proofs.lemmas.Bool.Decides.{nat_tests}
use Rattle.std.specs.Prelude.{◌==◌, if◌then◌else◌}
use Rattle.paging_model.specs.declared.registers.Regs.{Regs}
use Rattle.paging_model.specs.declared.registers.RegChange.{RegChange}
use Rattle.paging_model.specs.declared.registers.RegChange.TheVariants.{Cr0, Cr3, Cr4, Efer, Ac, Pkru, Pkrs}
use Rattle.history_model.specs.History.{History, begun, next, time, regs}
use Rattle.history_model.specs.Invalidations.{kills, loses_all, change_kills, change_empties, invpcid_kills}
use Rattle.history_model.specs.Horizons.{horizon, takes_all}
use Rattle.history_model.specs.declared.caches.CacheKey.{CacheKey}
use Rattle.history_model.specs.declared.events.Event.{Event}
use Rattle.history_model.specs.declared.events.Event.TheVariants as event
use Rattle.history_laws.specs.Making.{Spares, here, later}

-- what empties a processor removes each entry
change_takes : (change : RegChange) (known : Regs) (key : CacheKey) → change_empties change known ≡ true → change_kills change known key ≡ true
change_takes (Cr0 value) known key h = absurd (cc)
change_takes (Cr3 value) known key h = absurd (cc)
change_takes (Cr4 value) known key h = rw h refl
change_takes (Efer value) known key h = absurd (cc)
change_takes (Ac value) known key h = absurd (cc)
change_takes (Pkru value) known key h = absurd (cc)
change_takes (Pkrs value) known key h = absurd (cc)

type_takes : (kind pcid address : ℕ) (known : Regs) (key : CacheKey) → (kind == 2) ≡ true → invpcid_kills kind pcid address known key ≡ true
type_takes kind pcid address known key h = let e : kind ≡ 2 = grind (arith, nat_tests) in rw e refl

both : (a b d : Bool) → (b ≡ true → d ≡ true) → (a && b) ≡ true → (a && d) ≡ true
both false b d f h = h
both true b d f h = f h

pub takes_each : (happened : Event) (p : ℕ) (known : Regs) (key : CacheKey) → loses_all happened p known ≡ true → kills happened p known key ≡ true
unfolding kills
takes_each (event.Machine m) p known key h = absurd (cc)
takes_each (event.Cpu cpu given) p known key h = absurd (cc)
takes_each (event.Write at bytes) p known key h = absurd (cc)
takes_each (event.Set cpu change) p known key h = both _ _ _ (change_takes change known key) h
takes_each (event.Invlpg cpu address) p known key h = absurd (cc)
takes_each (event.Invpcid cpu kind pcid address) p known key h = both _ _ _ (type_takes kind pcid address known key) h
takes_each (event.Ask cpu access pointer) p known key h = absurd (cc)
takes_each (event.List cpu) p known key h = absurd (cc)
takes_each (event.Point all) p known key h = absurd (cc)

either : (b : Bool) (m n t : ℕ) → m ≤ t → n ≤ t → (if b then m else n) ≤ t
either false m n t h k = k
either true m n t h k = h

pub horizon-time : (history : History) (p : ℕ) → horizon history p ≤ time history
horizon-time (begun start) p = omega arith
horizon-time (next before happened) p =
    let earlier : horizon before p ≤ time before = horizon-time before p in
    either (takes_all happened p (regs before p)) _ _ _ (omega arith) (omega arith)

spares_all : (lost killed : Bool) → (lost ≡ true → killed ≡ true) → killed ≡ false → lost ≡ false
spares_all false killed f h = refl
spares_all true killed f h = absurd (let e : killed ≡ true = f refl in cc)

-- an event that spares an entry leaves the horizon
pub horizon-spares : (before : History) (happened : Event) (p : ℕ) (known : Regs) (key : CacheKey) → regs before p ≡ Some known → kills happened p known key ≡ false
    → horizon (next before happened) p ≡ horizon before p
horizon-spares before happened p known key is_known spares =
    let lost : takes_all happened p (regs before p) ≡ false = ap (takes_all happened p) is_known ∙ spares_all (loses_all happened p known) (kills happened p known key) (takes_each happened p known key) spares in
    ap (λ (b : Bool). if b then time before + 1 else horizon before p) lost

-- what is spared since a moment isn't older than the horizon
pub horizon-spared : {p : ℕ} {key : CacheKey} {moment history : History} → Spares moment p key history → horizon history p ≤ time moment
horizon-spared {p = p} {moment = moment} here = horizon-time moment p
horizon-spared {p = p} {key = key} (later {history = before} {known = known} happened spared is_known spares) =
    let same = horizon-spares before happened p known key is_known spares in
    let earlier = horizon-spared spared in
    omega (arith, same, earlier)
