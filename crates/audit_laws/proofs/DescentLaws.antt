-- What the roots lead to is what may be held.
use Rattle.std.proofs.Common.{◌≡◌, ℕ, zero, suc, ◌+◌, ◌≤◌, ◌⊎◌, inl, inr, true, false, Some, refl, sym, ap, ◌∙◌, arith, subst}
use Rattle.std.proofs.lemmas.Option.{same_Some}
use Rattle.paging_model.specs.Registers.{root_of, settings_of}
use Rattle.paging_model.specs.Entries.{root_bits}
use Rattle.paging_model.specs.Walking.{top_level}
use Rattle.paging_model.specs.declared.entries.Bits.{Bits}
use Rattle.paging_model.specs.declared.registers.Machine.{Machine}
use Rattle.paging_model.specs.declared.registers.Regs.{Regs}
use Rattle.history_model.specs.History.{History, memory, machine, time}
use Rattle.history_model.specs.CachedTranslations.{Held, MayHold, at_root, below, fill_of, cache_key}
use Rattle.history_model.specs.Horizons.{horizon}
use Rattle.history_laws.specs.HeldLevels.{HasLevel}
use Rattle.history_laws.specs.Making.{IsMade, HeldSince}
use Rattle.history_laws.specs.MomentsByTime.{moment_at, IsSpared}
use Rattle.history_laws.proofs.MakingLaws.{since_held}
use Rattle.history_laws.proofs.HorizonLaws.{horizon-spared, horizon-time}
use Rattle.history_laws.proofs.LevelLaws.{held_has_level}
use Rattle.history_laws.proofs.TimeLaws.{moment_at-now, moment_at-moment, taken_at-moment, machine-at, time-at, horizon-at, IsSparedMoment, spares-at, held-onward}
use Rattle.audit_laws.specs.Leads.{IsKept}
use Rattle.audit_laws.specs.MadeAtTimes.{IsInPcid, IsRootAt, made_at, entry_taken_at, LeadsUnder, IsLedTo}
use Rattle.audit_laws.proofs.MadeLaws.{IsMadeAt, made_at-is, made_at-of}

-- what is kept of a table, by what p made under c and by what was taken of that
abbrev pub IsKeptUnder : History → ℕ → ℕ → ℕ → (ℕ → Type 0) → ℕ → ℕ → Bits → ℕ → Held → Type 0
IsKeptUnder history p c = IsKept (made_at history p c) (entry_taken_at history p c) (time history)

-- a held entry references the table at a time
record IsReferencedAt (history : History) (p c level x table : ℕ) (bits : Bits) (t : ℕ) : Type 0 where
  pub above : Held
  pub above_held : MayHold (moment_at history t) p c (suc level) x above
  pub references : above.leaf ≡ false
  pub frame : above.frame ≡ table
  pub joined : above.bits ≡ bits

-- a table may be read at a time: it is the root's, or a held entry references it
abbrev IsReadAt : History → ℕ → ℕ → ℕ → ℕ → ℕ → Bits → ℕ → Type 0
IsReadAt history p c level x table bits t = (IsRootAt history p c level table t × (bits ≡ root_bits)) ⊎ IsReferencedAt history p c level x table bits t

-- what is made of a table that may be read may be held
made_held : (history : History) (p c level x table : ℕ) (bits : Bits) (t : ℕ) (held : Held)
    → IsMadeAt history p c level x table bits t held → IsReadAt history p c level x table bits t → MayHold (moment_at history t) p c level x held
made_held history p c level x table bits t held made (inl root) =
    let at : IsRootAt history p c level table t = root.0 in
    let known : Regs = made.known in
    let same : at.known ≡ known = same_Some _ _ (sym at.is_in.is_known ∙ made.is_in.is_known) in
    let machine_is : machine history ≡ machine (moment_at history t) = sym (machine-at history t) in
    let fill = λ (one : Machine) (n : ℕ) (b : Bits). fill_of (memory (moment_at history t)) one known level x n b in
    let now : Machine = machine (moment_at history t) in
    let top : level ≡ top_level (settings_of known now) =
    at.top ∙ (ap (λ k. top_level (settings_of k (machine history))) same ∙ ap (λ one. top_level (settings_of known one)) machine_is) in
    let root_is : table ≡ root_of known now = at.root ∙ (ap (λ k. root_of k (machine history)) same ∙ ap (root_of known) machine_is) in
    at_root made.is_in.is_known made.is_in.current top
    (ap (fill now (root_of known now)) (sym root.1) ∙ (ap (λ n. fill now n bits) (sym root_is) ∙ (ap (λ one. fill one table bits) (sym machine_is) ∙ made.is_made)))
made_held history p c level x table bits t held made (inr r) =
    let now : Machine = machine (moment_at history t) in
    let fill = λ (one : Machine) (n : ℕ) (b : Bits). fill_of (memory (moment_at history t)) one made.known level x n b in
    below r.above made.is_in.is_known made.is_in.current r.above_held r.references
    (ap (λ n. fill now n r.above.bits) r.frame ∙ (ap (fill now table) r.joined ∙ (ap (λ one. fill one table bits) (machine-at history t) ∙ made.is_made)))

-- what is kept of a table that may be read whenever it is in use may be held
kept_held : (history : History) (p c x : ℕ) (InUse : ℕ → Type 0) (level table : ℕ) (bits : Bits) (u : ℕ) (held : Held)
    → ((t : ℕ) → InUse t → IsReadAt history p c level x table bits t)
    → IsKeptUnder history p c x InUse level table bits u held → MayHold (moment_at history u) p c level x held
kept_held history p c x InUse level table bits u held read k =
    held-onward history p c x level held k.t u k.order k.within (record { each = k.spared })
    (made_held history p c level x table bits k.t held (made_at-is history p c level x table bits k.t held k.is_made) (read k.t k.in_use))

leads_held : (history : History) (p c x : ℕ) (InUse : ℕ → Type 0) (level table : ℕ) (bits : Bits) (k : ℕ) (held : Held)
    → ((t : ℕ) → InUse t → IsReadAt history p c level x table bits t)
    → LeadsUnder history p c x InUse level table bits k held → MayHold history p c k x held
leads_held history p c x InUse zero table bits k held read l = absurd l
leads_held history p c x InUse (suc lower) table bits k held read (inl leaf) =
    let now : MayHold (moment_at history (time history)) p c (suc lower) x held = kept_held history p c x InUse (suc lower) table bits (time history) held read leaf.2 in
    subst (λ n. MayHold history p c n x held) (sym leaf.0) (subst (λ one. MayHold one p c (suc lower) x held) (moment_at-now history) now)
leads_held history p c x InUse (suc lower) table bits k held read (inr l) =
    leads_held history p c x (λ u. IsKeptUnder history p c x InUse (suc lower) table bits u l.0) lower l.0.frame l.0.bits k held
    (λ t used. inr (record { above = l.0; above_held = kept_held history p c x InUse (suc lower) table bits t l.0 read used; references = l.1; frame = refl; joined = refl }))
    l.2

-- what a root leads to may be held
pub led_held : (history : History) (p c level x : ℕ) (held : Held) → IsLedTo history p c level x held → MayHold history p c level x held
led_held history p c level x held led =
    leads_held history p c x (IsRootAt history p c led.top led.root) led.top led.root root_bits level held (λ t root. inl (root, refl)) led.leads

-- what may be held at a time was made at one, no earlier than the horizon, and spared since
record IsMadeBefore (history : History) (p c u level x : ℕ) (held : Held) : Type 0 where
  pub t : ℕ
  pub order : t ≤ u
  pub recent : horizon history p ≤ t
  pub was_made : IsMade (moment_at history t) p c level x held
  pub spared : IsSpared history p (cache_key c level x held) t u

made_before : (history : History) (p c u level x : ℕ) (held : Held) → u ≤ time history → horizon history p ≤ u
    → MayHold (moment_at history u) p c level x held → IsMadeBefore history p c u level x held
made_before history p c u level x held within recent m =
    let since : HeldSince (moment_at history u) p c level x held = since_held m in
    let at : IsSparedMoment p (cache_key c level x held) since.moment (moment_at history u) = spares-at since.spared in
    let now : time (moment_at history u) ≡ u = time-at history u within in
    let order : time since.moment ≤ u = rw now at at.within in
    let is : since.moment ≡ moment_at history (time since.moment) = at.is ∙ moment_at-moment history (time since.moment) u order within in
    record {
      t = time since.moment;
      order = order;
      recent = rw (horizon-at history p u recent within) at (horizon-spared since.spared);
      was_made = subst (λ one. IsMade one p c level x held) is since.was_made;
      spared = record { each = λ v a b. sym (taken_at-moment history p (cache_key c level x held) v u b within) ∙ at.spared.each v a (rw now b) };
    }

fill-same : (history : History) (t : ℕ) (known : Regs) (level x table : ℕ) (bits : Bits) (held : Held)
    → fill_of (memory (moment_at history t)) (machine (moment_at history t)) known level x table bits ≡ Some held
    → fill_of (memory (moment_at history t)) (machine history) known level x table bits ≡ Some held
fill-same history t known level x table bits held h = ap (λ one. fill_of (memory (moment_at history t)) one known level x table bits) (sym (machine-at history t)) ∙ h

-- from an entry that was made at a time up to the root, where what follows from it is a leaf
climb : (n : ℕ) (history : History) (p c t level x : ℕ) (held : Held) (k : ℕ) (leaf : Held) → 6 ≤ level + n → t ≤ time history → horizon history p ≤ t
    → IsMade (moment_at history t) p c level x held
    → ((InUse : ℕ → Type 0) (table : ℕ) (bits : Bits) → InUse t → made_at history p c level table bits x t ≡ Some held → LeadsUnder history p c x InUse level table bits k leaf)
    → IsLedTo history p c k x leaf
climb n history p c t level x held k leaf room within recent (inl r) follows =
    let is_in : IsInPcid history p c t r.known = record { recent = recent; within = within; is_known = r.is_known; current = r.current } in
    let table : ℕ = root_of r.known (machine history) in
    let root : IsRootAt history p c level table t =
    record { known = r.known; is_in = is_in; top = r.top ∙ ap (λ one. top_level (settings_of r.known one)) (machine-at history t); root = refl } in
    let root_is : table ≡ root_of r.known (machine (moment_at history t)) = ap (root_of r.known) (sym (machine-at history t)) in
    record {
      top = level;
      root = table;
      leads = follows (IsRootAt history p c level table) table root_bits root (made_at-of history p c level x table root_bits t held (record {
        known = r.known;
        is_in = is_in;
        is_made = fill-same history t r.known level x table root_bits held
            (ap (λ a. fill_of (memory (moment_at history t)) (machine (moment_at history t)) r.known level x a root_bits) root_is ∙ r.is_made);
      }));
    }
climb zero history p c t level x held k leaf room within recent (inr b) follows =
    let high : HasLevel (suc level) b.above = held_has_level b.above_held in absurd (omega (arith, high.most))
climb (suc n) history p c t level x held k leaf room within recent (inr b) follows =
    let before : IsMadeBefore history p c t (suc level) x b.above = made_before history p c t (suc level) x b.above within recent b.above_held in
    climb n history p c before.t (suc level) x b.above k leaf (omega arith) (let order = before.order in omega arith) before.recent before.was_made
    (λ InUse table bits used above_made. inr (
      b.above,
      b.references,
      follows (λ u. IsKeptUnder history p c x InUse (suc level) table bits u b.above) b.above.frame b.above.bits
          (record { t = before.t; in_use = used; is_made = above_made; order = before.order; within = within; spared = before.spared.each })
          (made_at-of history p c level x b.above.frame b.above.bits t held (record {
            known = b.known;
            is_in = record { recent = recent; within = within; is_known = b.is_known; current = b.current };
            is_made = fill-same history t b.known level x b.above.frame b.above.bits held b.is_made;
          })),
    ))

-- a translation that may be held is one that a root leads to
pub held_led : (history : History) (p c level x : ℕ) (held : Held) → held.leaf ≡ true → MayHold history p c level x held → IsLedTo history p c level x held
held_led history p c zero x held leaf m = let low : HasLevel zero held = held_has_level m in absurd (omega (arith, low.least))
held_led history p c (suc lower) x held leaf m =
    let now : MayHold (moment_at history (time history)) p c (suc lower) x held = subst (λ one. MayHold one p c (suc lower) x held) (sym (moment_at-now history)) m in
    let before : IsMadeBefore history p c (time history) (suc lower) x held =
    made_before history p c (time history) (suc lower) x held (omega arith) (horizon-time history p) now in
    climb 6 history p c before.t (suc lower) x held (suc lower) held (omega arith) before.order before.recent before.was_made
    (λ InUse table bits used is_made. inl (refl, leaf, record { t = before.t; in_use = used; is_made = is_made; order = before.order; within = omega arith; spared = before.spared.each }))
