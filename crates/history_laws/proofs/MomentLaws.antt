-- Moments on the way to another.
use Rattle.std.proofs.Common.{◌≡◌, ℕ, ◌+◌, ◌<◌, ◌≤◌, Bool, true, false, refl, ◌∙◌, arith}
use Rattle.std.specs.Prelude.{if◌then◌else◌}
use Rattle.history_model.specs.History.{History, next, time, regs}
use Rattle.history_model.specs.Horizons.{IsUpTo, here, later, horizon, takes_all}
use Rattle.history_model.specs.declared.events.Event.{Event}

pub up_to_before : {before : History} {happened : Event} {history : History} → IsUpTo (next before happened) history → IsUpTo before history
up_to_before {happened = happened} here = later happened here
up_to_before (later last up_to) = later last (up_to_before up_to)

time-up_to : {moment history : History} → IsUpTo moment history → time moment ≤ time history
time-up_to here = omega arith
time-up_to (later happened up_to) = let earlier = time-up_to up_to in omega (arith, earlier)

unless_later : (b : Bool) (m n t : ℕ) → (if b then m else n) ≤ t → t < m → n ≡ (if b then m else n)
unless_later true m n t h k = absurd (omega arith)
unless_later false m n t h k = refl

-- from the horizon on the horizon is the same
pub horizon-at : (p : ℕ) {moment history : History} → IsUpTo moment history → horizon history p ≤ time moment → horizon moment p ≡ horizon history p
horizon-at p here since = refl
horizon-at p {moment = moment} (later {history = before} happened up_to) since =
    let earlier = time-up_to up_to in
    let same : horizon before p ≡ horizon (next before happened) p =
    unless_later (takes_all happened p (regs before p)) (time before + 1) (horizon before p) (time moment) since (omega (arith, earlier)) in
    horizon-at p up_to (omega (arith, same)) ∙ same
