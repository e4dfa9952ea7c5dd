-- What events of others leave.
use Rattle.std.proofs.Common.{◌≡◌, ℕ, Bool, true, false, ◌&&◌, Option, Some, List, [], ◌∷◌, refl, ap}
use Rattle.std.specs.Prelude.{◌==◌, if◌then◌else◌}
use Rattle.paging_model.specs.RegisterRules.{with_change}
use Rattle.paging_model.specs.declared.registers.Processor.{Processor}
use Rattle.paging_model.specs.declared.registers.Regs.{Regs}
use Rattle.paging_model.specs.declared.registers.RegChange.{RegChange}
use Rattle.history_model.specs.History.{History, next, processors, processors_after, regs, regs_in, set_in}
use Rattle.history_model.specs.Invalidations.{kills, invlpg_kills, invpcid_kills, change_kills}
use Rattle.history_model.specs.CachedTranslations.{Held, MayHold, kept, at_root, below, cache_key}
use Rattle.history_model.specs.declared.caches.CacheKey.{CacheKey}
use Rattle.history_model.specs.declared.events.Event.{Event}
use Rattle.history_model.specs.declared.events.Event.TheVariants as event
use Rattle.history_laws.specs.Executing.{is_by}

-- an event of another processor removes nothing
pub kills-others : (happened : Event) (p : ℕ) (known : Regs) (key : CacheKey) → is_by p happened ≡ false → kills happened p known key ≡ false
unfolding kills
kills-others (event.Machine m) p known key h = refl
kills-others (event.Cpu cpu given) p known key h = refl
kills-others (event.Write at bytes) p known key h = refl
kills-others (event.Set cpu change) p known key h = ap (λ own. own && change_kills change known key) h
kills-others (event.Invlpg cpu address) p known key h = ap (λ own. own && invlpg_kills address known key) h
kills-others (event.Invpcid cpu kind pcid address) p known key h = ap (λ own. own && invpcid_kills kind pcid address known key) h
kills-others (event.Ask cpu access pointer) p known key h = refl
kills-others (event.List cpu) p known key h = refl
kills-others (event.Point all) p known key h = refl

-- a processor whose registers are known
pub record IsKnown (now : Option Regs) : Type 0 where
  pub known : Regs
  pub is_known : now ≡ Some known

known_or : (is_p : Bool) (given new : Regs) (rest changed_rest : Option Regs) → (IsKnown rest → IsKnown changed_rest)
    → IsKnown (if is_p then Some given else rest) → IsKnown (if is_p then Some new else changed_rest)
known_or true given new rest changed_rest f k = record { known = new; is_known = refl }
known_or false given new rest changed_rest f k = f k

-- the registers of a processor, where it has the number
abbrev regs_or : ℕ → Processor → Option Regs → Option Regs
regs_or p one rest = if one.number == p then Some one.regs else rest

known_where : (is_set : Bool) (p : ℕ) (one : Processor) (new : Regs) (rest changed_rest : Option Regs) → (IsKnown rest → IsKnown changed_rest)
    → IsKnown (if one.number == p then Some one.regs else rest)
    → IsKnown (regs_or p (if is_set then (record one { regs = new }) else one) changed_rest)
known_where true p one new rest changed_rest f k = known_or (one.number == p) one.regs new rest changed_rest f k
known_where false p one new rest changed_rest f k = known_or (one.number == p) one.regs one.regs rest changed_rest f k

set_in-known : (cpu p : ℕ) (change : RegChange) (list : List Processor) → IsKnown (regs_in list p) → IsKnown (regs_in (set_in cpu change list) p)
set_in-known cpu p change [] k = k
set_in-known cpu p change (one ∷ rest) k =
    known_where (one.number == cpu) p one (with_change change one.regs) (regs_in rest p) (regs_in (set_in cpu change rest) p) (set_in-known cpu p change rest) k

stays_known : (happened : Event) (p : ℕ) (list : List Processor) → IsKnown (regs_in list p) → IsKnown (regs_in (processors_after happened list) p)
stays_known (event.Machine m) p list k = k
stays_known (event.Cpu cpu given) p list k = k
stays_known (event.Write at bytes) p list k = k
stays_known (event.Set cpu change) p list k = set_in-known cpu p change list k
stays_known (event.Invlpg cpu address) p list k = k
stays_known (event.Invpcid cpu kind pcid address) p list k = k
stays_known (event.Ask cpu access pointer) p list k = k
stays_known (event.List cpu) p list k = k
stays_known (event.Point all) p list k = k

-- a processor that may hold something is known
pub held_known : {p c x : ℕ} {history : History} {level : ℕ} {held : Held} → MayHold history p c level x held → IsKnown (regs history p)
held_known {p = p} (kept {before = before} happened {known = known} earlier is_known spares) =
    stays_known happened p (processors before) (record { known = known; is_known = is_known })
held_known (at_root {known = known} is_known current top is_made) = record { known = known; is_known = is_known }
held_known (below {known = known} above is_known current above_held references is_made) = record { known = known; is_known = is_known }

pub others_leave : (before : History) (happened : Event) (p c level x : ℕ) (held : Held) → is_by p happened ≡ false → MayHold before p c level x held → MayHold (next before happened) p c level x held
others_leave before happened p c level x held other may_hold =
    let now : IsKnown (regs before p) = held_known may_hold in
    kept happened may_hold now.is_known (kills-others happened p now.known (cache_key c level x held) other)
