-- Moments by their times: what a moment has is what it had on the way to a later one.
use Rattle.std.proofs.Common.{◌≡◌, ℕ, ◌+◌, ◌<◌, ◌≤◌, ◌⊎◌, inl, inr, Bool, true, false, refl, sym, ap, ◌∙◌, arith, subst}
use Rattle.std.proofs.lemmas.Bool.Decides.{nat_tests}
use Rattle.std.specs.Prelude.{◌==◌, nat_le, if◌then◌else◌}
use Rattle.history_model.specs.History.{History, begun, next, time, machine, regs}
use Rattle.history_model.specs.Horizons.{horizon, takes_all}
use Rattle.history_model.specs.CachedTranslations.{Held, MayHold, kept, cache_key}
use Rattle.history_model.specs.declared.caches.CacheKey.{CacheKey}
use Rattle.history_model.specs.declared.events.Event.{Event}
use Rattle.history_laws.specs.Making.{Spares, here, later}
use Rattle.history_laws.proofs.EventLaws.{held_known}
use Rattle.history_laws.specs.MomentsByTime.{moment_at, takes, taken_at, IsSpared}

pub moment_at-early : (before : History) (happened : Event) (t : ℕ) → t ≤ time before → moment_at (next before happened) t ≡ moment_at before t
moment_at-early before happened t h =
    let test : nat_le t (time before) ≡ true = grind (arith, nat_tests) in
    ap (λ (b : Bool). if b then moment_at before t else next before happened) test

pub moment_at-late : (before : History) (happened : Event) (t : ℕ) → time before < t → moment_at (next before happened) t ≡ next before happened
moment_at-late before happened t h =
    let test : nat_le t (time before) ≡ false = grind (arith, nat_tests) in
    ap (λ (b : Bool). if b then moment_at before t else next before happened) test

pub moment_at-now : (history : History) → moment_at history (time history) ≡ history
moment_at-now (begun start) = refl
moment_at-now (next before happened) = moment_at-late before happened (time before + 1) (omega arith)

pub taken_at-early : (before : History) (happened : Event) (p : ℕ) (key : CacheKey) (t : ℕ) → t ≤ time before → taken_at (next before happened) p key t ≡ taken_at before p key t
taken_at-early before happened p key t h =
    let test : (t == time before + 1) ≡ false = grind (arith, nat_tests) in
    ap (λ (b : Bool). if b then takes happened p (regs before p) key else taken_at before p key t) test

pub taken_at-late : (before : History) (happened : Event) (p : ℕ) (key : CacheKey) (t : ℕ) → t ≡ time before + 1 → taken_at (next before happened) p key t ≡ takes happened p (regs before p) key
taken_at-late before happened p key t h =
    let test : (t == time before + 1) ≡ true = grind (arith, nat_tests) in
    ap (λ (b : Bool). if b then takes happened p (regs before p) key else taken_at before p key t) test

early_or_late : (n t : ℕ) → (t ≤ n) ⊎ (n < t)
early_or_late n t = by_test (nat_le t n) refl
  where
    by_test : (b : Bool) → nat_le t n ≡ b → (t ≤ n) ⊎ (n < t)
    by_test true e = inl (grind (arith, nat_tests))
    by_test false e = inr (grind (arith, nat_tests))

pub time-at : (history : History) (t : ℕ) → t ≤ time history → time (moment_at history t) ≡ t
time-at (begun start) t h = omega arith
time-at (next before happened) t h = elim (early_or_late (time before) t) [
  | inl early ↦ ap time (moment_at-early before happened t early) ∙ time-at before t early
  | inr late ↦ ap time (moment_at-late before happened t late) ∙ (let e : time before + 1 ≡ t = omega arith in e)
]

pub machine-at : (history : History) (t : ℕ) → machine (moment_at history t) ≡ machine history
machine-at (begun start) t = refl
machine-at (next before happened) t = elim (early_or_late (time before) t) [
  | inl early ↦ ap machine (moment_at-early before happened t early) ∙ machine-at before t
  | inr late ↦ ap machine (moment_at-late before happened t late)
]

-- a moment of a moment
pub moment_at-moment : (history : History) (t u : ℕ) → t ≤ u → u ≤ time history → moment_at (moment_at history u) t ≡ moment_at history t
moment_at-moment (begun start) t u h k = refl
moment_at-moment (next before happened) t u h k = elim (early_or_late (time before) u) [
  | inl early ↦ ap (λ m. moment_at m t) (moment_at-early before happened u early)
      ∙ (moment_at-moment before t u h early ∙ sym (moment_at-early before happened t (omega arith)))
  | inr late ↦ ap (λ m. moment_at m t) (moment_at-late before happened u late)
]

pub taken_at-moment : (history : History) (p : ℕ) (key : CacheKey) (t u : ℕ) → t ≤ u → u ≤ time history → taken_at (moment_at history u) p key t ≡ taken_at history p key t
taken_at-moment (begun start) p key t u h k = refl
taken_at-moment (next before happened) p key t u h k = elim (early_or_late (time before) u) [
  | inl early ↦ ap (λ m. taken_at m p key t) (moment_at-early before happened u early)
      ∙ (taken_at-moment before p key t u h early ∙ sym (taken_at-early before happened p key t (omega arith)))
  | inr late ↦ ap (λ m. taken_at m p key t) (moment_at-late before happened u late)
]

chosen : (b : Bool) (m n t : ℕ) → (if b then m else n) ≤ t → t < m → ((if b then m else n) ≡ n)
chosen true m n t h k = absurd (omega arith)
chosen false m n t h k = refl

-- from the horizon on the horizon is the same
pub horizon-at : (history : History) (p t : ℕ) → horizon history p ≤ t → t ≤ time history → horizon (moment_at history t) p ≡ horizon history p
horizon-at (begun start) p t h k = refl
horizon-at (next before happened) p t h k = elim (early_or_late (time before) t) [
  | inl early ↦
      let same : horizon (next before happened) p ≡ horizon before p = chosen (takes_all happened p (regs before p)) (time before + 1) (horizon before p) t h (omega arith) in
      let low : horizon before p ≤ t = rw same at h in
      ap (λ m. horizon m p) (moment_at-early before happened t early) ∙ (horizon-at before p t low early ∙ sym same)
  | inr late ↦ ap (λ m. horizon m p) (moment_at-late before happened t late)
]

-- what is spared since a moment is spared after its time
pub record IsSparedMoment (p : ℕ) (key : CacheKey) (moment history : History) : Type 0 where
  pub is : moment ≡ moment_at history (time moment)
  pub within : time moment ≤ time history
  pub spared : IsSpared history p key (time moment) (time history)

pub spares-at : {p : ℕ} {key : CacheKey} {moment history : History} → Spares moment p key history → IsSparedMoment p key moment history
spares-at {moment = moment} here = record { is = sym (moment_at-now moment); within = omega arith; spared = record { each = λ v h k. absurd (omega arith) } }
spares-at {p = p} {key = key} {moment = moment} (later {history = before} {known = known} happened spared is_known spares) =
    let earlier : IsSparedMoment p key moment before = spares-at spared in
    record {
      is = earlier.is ∙ sym (moment_at-early before happened (time moment) earlier.within);
      within = let w = earlier.within in omega arith;
      spared = record {
        each = λ v h k. elim (early_or_late (time before) v) [
          | inl early ↦ taken_at-early before happened p key v early ∙ earlier.spared.each v h early
          | inr late ↦ taken_at-late before happened p key v (omega arith) ∙ (ap (λ now. takes happened p now key) is_known ∙ spares)
        ];
      };
    }

-- what may be held at a time may be held at a later one, where it is spared
pub held-onward : (history : History) (p c x level : ℕ) (held : Held) (t u : ℕ) → t ≤ u → u ≤ time history → IsSpared history p (cache_key c level x held) t u
    → MayHold (moment_at history t) p c level x held → MayHold (moment_at history u) p c level x held
held-onward (begun start) p c x level held t u h k spared m = m
held-onward (next before happened) p c x level held t u h k spared m = elim (early_or_late (time before) u) [
  | inl early ↦
      let m0 : MayHold (moment_at before t) p c level x held = subst (λ one. MayHold one p c level x held) (moment_at-early before happened t (omega arith)) m in
      subst (λ one. MayHold one p c level x held) (sym (moment_at-early before happened u early))
      (held-onward before p c x level held t u h early (record { each = λ v a b. sym (taken_at-early before happened p (cache_key c level x held) v (omega arith)) ∙ spared.each v a b }) m0)
  | inr late ↦ elim (early_or_late (time before) t) [
    | inl before_t ↦
        let m0 : MayHold (moment_at before t) p c level x held = subst (λ one. MayHold one p c level x held) (moment_at-early before happened t before_t) m in
        let m1 : MayHold (moment_at before (time before)) p c level x held =
        held-onward before p c x level held t (time before) before_t (omega arith) (record { each = λ v a b. sym (taken_at-early before happened p (cache_key c level x held) v b) ∙ spared.each v a (omega arith) }) m0 in
        let m2 : MayHold before p c level x held = subst (λ one. MayHold one p c level x held) (moment_at-now before) m1 in
        let now = held_known m2 in
        let last : takes happened p (regs before p) (cache_key c level x held) ≡ false =
        sym (taken_at-late before happened p (cache_key c level x held) u (omega arith)) ∙ spared.each u (omega arith) (omega arith) in
        subst (λ one. MayHold one p c level x held) (sym (moment_at-late before happened u late))
        (kept happened m2 now.is_known (sym (ap (λ one. takes happened p one (cache_key c level x held)) now.is_known) ∙ last))
    | inr after_t ↦ subst (λ one. MayHold one p c level x held) (moment_at-late before happened t after_t ∙ sym (moment_at-late before happened u late)) m
  ]
]
