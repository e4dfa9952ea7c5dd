-- Under a steady table all that may be held of pages is what the present walk from it comes to, and none of it is stale.
use Rattle.std.proofs.Common.{◌≡◌, ℕ, zero, suc, ◌-◌, ◌%◌, inl, inr, Bool, true, false, Option, Some, None, sym, ap, ◌∙◌, arith, subst}
use Rattle.std.specs.Prelude.{option_map, option_and_then}
use Rattle.paging_model.specs.Memory.{Memory, entry_at}
use Rattle.paging_model.specs.Entries.{entry_of}
use Rattle.paging_model.specs.Registers.{pge, settings_of}
use Rattle.paging_model.specs.TableUses.{Reaches}
use Rattle.paging_model.specs.Translations.{Target, granted_target, present_target, raw_target, raw_target_of, rights_of}
use Rattle.paging_model.specs.Walking.{entry_address, entry_read, walk_from}
use Rattle.paging_model.specs.declared.entries.Bits.{Bits}
use Rattle.paging_model.specs.declared.entries.Entry.{Entry}
use Rattle.paging_model.specs.declared.entries.Entry.TheVariants as entry
use Rattle.paging_model.specs.declared.registers.Machine.{Machine}
use Rattle.paging_model.specs.declared.registers.Regs.{Regs}
use Rattle.paging_model.specs.declared.registers.Settings.{Settings}
use Rattle.paging_laws.proofs.Readings.{walk-reached}
use Rattle.history_model.specs.History.{History, memory, machine, time}
use Rattle.history_model.specs.CachedTranslations.{Held, fill_of, held_of}
use Rattle.history_model.specs.StaleTranslations.{Exceeds, held_target}
use Rattle.history_laws.specs.MomentsByTime.{moment_at}
use Rattle.history_laws.specs.QuietHistories.{IsPageOf}
use Rattle.history_laws.proofs.LevelLaws.{read_of}
use Rattle.history_laws.proofs.WalkLaws.{ComesTo, step_to_held, own_frame-page, not_over_itself}
use Rattle.audit_laws.specs.Leads.{LeadsAtOneTime}
use Rattle.audit_laws.specs.MadeAtTimes.{made_at, entry_taken_at, LeadsUnder}
use Rattle.audit_laws.specs.SteadyTables.{HasSettings, IsMappedFrom, IsPresentBelow, IsSteady, IsUnchanged}
use Rattle.audit_laws.proofs.LeadLaws.{leads-once}
use Rattle.audit_laws.proofs.MadeLaws.{IsMadeAt, made_at-is}
use Rattle.audit_laws.proofs.DescentLaws.{IsKeptUnder}

-- what is made goes by the entry's value alone
fill-value : (some other : Memory) (machine : Machine) (known : Regs) (level x table : ℕ) (above : Bits)
    → entry_at some (entry_address level x table) ≡ entry_at other (entry_address level x table)
    → fill_of some machine known level x table above ≡ fill_of other machine known level x table above
unfolding fill_of
fill-value some other machine known level x table above same =
    ap (λ value. option_and_then (λ read. held_of (pge known) above read) (option_map (λ number. entry_of level (settings_of known machine) number) value)) same

-- of a table's entry a reference is held
record IsReference (held : Held) (meaning : Entry) : Type 0 where
  pub bits : Bits
  pub is_table : meaning ≡ entry.Table held.frame bits

reference : (pages_are_global : Bool) (above : Bits) (held : Held) (meaning : Entry) → held.leaf ≡ false → held_of pages_are_global above meaning ≡ Some held → IsReference held meaning
reference g above held entry.Absent f h = absurd (cc)
reference g above held entry.Reserved f h = absurd (cc)
reference g above held (entry.Table frame bits) f h = record { bits = bits; is_table = ap (λ n. entry.Table n bits) (ap frame_in h) }
  where
    frame_in : Option Held → ℕ
    frame_in None = 0
    frame_in (Some one) = one.frame
reference g above held (entry.Leaf frame bits key global) f h = let e : true ≡ held.leaf = ap leaf_in h in absurd (cc (e, f))
  where
    leaf_in : Option Held → Bool
    leaf_in None = false
    leaf_in (Some one) = one.leaf

module _ (history : History) (p c : ℕ) (settings : Settings) (x : ℕ) (same : HasSettings history p settings) where
  -- what was made of an unchanged entry is made of it now, by the present settings
  record IsMadeNow (level table : ℕ) (bits : Bits) (held : Held) : Type 0 where
    pub known : Regs
    pub settings_are : settings_of known (machine history) ≡ settings
    pub is_made : fill_of (memory history) (machine history) known level x table bits ≡ Some held

  made_now : (InUse : ℕ → Type 0) (level table : ℕ) (bits : Bits) (u : ℕ) (held : Held) → IsUnchanged history p (entry_address level x table)
      → IsKeptUnder history p c x InUse level table bits u held → IsMadeNow level table bits held
  made_now InUse level table bits u held unchanged kept =
      let made : IsMadeAt history p c level x table bits kept.t held = made_at-is history p c level x table bits kept.t held kept.is_made in
      record {
        known = made.known;
        settings_are = same kept.t made.known made.is_in.recent made.is_in.within made.is_in.is_known;
        is_made = sym (fill-value (memory (moment_at history kept.t)) (memory history) (machine history) made.known level x table bits (unchanged kept.t made.is_in.recent made.is_in.within)) ∙ made.is_made;
      }

  module _ (lower table : ℕ) (bits : Bits) (held : Held) (now : IsMadeNow (suc lower) table bits held) where
    abbrev ComesHere : Settings → ℕ → ℕ → Bits → Type 0
    ComesHere one level n b = ComesTo (pge now.known) (suc lower) x held (λ frame joined. walk_from (memory history) one level x frame joined) (walk_from (memory history) one (suc lower) x n b)

    comes : ComesHere settings lower table bits
    comes =
        let lower_is : suc lower - 1 ≡ lower = omega arith in
        subst (λ n. ComesHere settings n table bits) lower_is
        (subst (λ s. ComesHere s (suc lower - 1) table bits) now.settings_are (step_to_held (memory history) (machine history) now.known x (suc lower) table bits held (omega arith) now.is_made))

    reads : held.leaf ≡ false → (joined : Bits) × (entry_read (memory history) settings (suc lower) x table ≡ Some (entry.Table held.frame joined))
    reads leaf =
        let read = read_of (memory history) (machine history) now.known x (suc lower) table bits held now.is_made in
        let is_held : held_of (pge now.known) bits (entry_of (suc lower) settings read.number) ≡ Some held =
        ap (λ s. held_of (pge now.known) bits (entry_of (suc lower) s read.number)) (sym now.settings_are) ∙ read.is_held in
        let meant : IsReference held (entry_of (suc lower) settings read.number) = reference (pge now.known) bits held (entry_of (suc lower) settings read.number) leaf is_held in
        (meant.bits, ap (option_map (λ value. entry_of (suc lower) settings value)) read.was_read ∙ ap (λ (one : Entry). Some one) meant.is_table)

  -- whatever a steady table leads to is the page of the present walk from it
  pub steady_leads : (InUse : ℕ → Type 0) (level table : ℕ) (bits : Bits) (k : ℕ) (held : Held) → IsSteady history p settings level x table
      → LeadsUnder history p c x InUse level table bits k held → IsPresentBelow history settings level x table bits k held
  steady_leads InUse zero table bits k held steady l = absurd l
  steady_leads InUse (suc lower) table bits k held steady (inl leaf) =
      let now : IsMadeNow (suc lower) table bits held = made_now InUse (suc lower) table bits (time history) held steady.0 leaf.2 in
      let there : ComesHere lower table bits held now settings lower table bits = comes lower table bits held now in
      record {
        pages_are_global = pge now.known;
        page = subst (λ n. IsPageOf (pge now.known) n x held (walk_from (memory history) settings (suc lower) x table bits)) (sym leaf.0) (there.page leaf.1);
      }
  steady_leads InUse (suc lower) table bits k held steady (inr l) =
      let above : Held = l.0 in
      let Below = λ (u : ℕ). IsKeptUnder history p c x InUse (suc lower) table bits u above in
      let once : LeadsAtOneTime (made_at history p c) (entry_taken_at history p c) (time history) x Below lower above.frame above.bits k held =
      leads-once (made_at history p c) (entry_taken_at history p c) (time history) x Below lower above.frame above.bits k held l.2 in
      let now : IsMadeNow (suc lower) table bits above = made_now InUse (suc lower) table bits once.t above steady.0 once.in_use in
      let there : ComesHere lower table bits above now settings lower table bits = comes lower table bits above now in
      let read = reads lower table bits above now l.1 in
      let rest : IsPresentBelow history settings lower x above.frame above.bits k held =
      steady_leads Below lower above.frame above.bits k held (steady.1 above.frame read.0 read.1) l.2 in
      record { pages_are_global = rest.pages_are_global; page = subst (λ w. IsPageOf rest.pages_are_global k x held w) (sym (there.table l.1)) rest.page }

-- the page at which the walk from a table ends is the present translation, where the root's tables map it as that table does
pub present_below : (history : History) (settings : Settings) (known : Regs) (root level x table : ℕ) (bits : Bits) (k : ℕ) (held : Held)
    → settings_of known (machine history) ≡ settings → x % 4096 ≡ 0 → IsMappedFrom (memory history) settings root level x table bits
    → IsPresentBelow history settings level x table bits k held → present_target (memory history) (machine history) known root x ≡ Some (held_target known k x held)
present_below history settings known root level x table bits k held settings_are aligned mapped below =
    let target = λ (frame : ℕ). let at : Target ℕ = record { frame = frame; kind = rights_of known x (record { bits = held.bits; key = held.key }) } in Some at in
    ap (λ (s : Settings). granted_target known x (raw_target (memory history) s root x)) settings_are
    ∙ (ap (granted_target known x) mapped
    ∙ (ap (λ end. granted_target known x (raw_target_of end)) below.page.is_page ∙ ap target (own_frame-page k held.frame x aligned)))

-- what such a table leads to isn't stale
pub present_not_stale : (history : History) (settings : Settings) (known : Regs) (root level x table : ℕ) (bits : Bits) (k : ℕ) (held : Held)
    → settings_of known (machine history) ≡ settings → x % 4096 ≡ 0 → IsMappedFrom (memory history) settings root level x table bits
    → IsPresentBelow history settings level x table bits k held → Exceeds (present_target (memory history) (machine history) known root x) (held_target known k x held) → ⊥
present_not_stale history settings known root level x table bits k held settings_are aligned mapped below exceeds =
    not_over_itself (held_target known k x held)
    (subst (λ there. Exceeds there (held_target known k x held)) (present_below history settings known root level x table bits k held settings_are aligned mapped below) exceeds)

-- a table that the walk of x comes to maps x as the root does
pub mapped_where_reached : (one : Memory) (settings : Settings) (root level x table : ℕ) (bits : Bits) → Reaches one settings root level x table bits
    → IsMappedFrom one settings root level x table bits
mapped_where_reached one settings root level x table bits reached = ap raw_target_of (walk-reached reached)
