-- The entries that a slot made over time, and the times at which its table was in use.
use Rattle.std.proofs.Common.{◌≡◌, ℕ, zero, suc, ◌+◌, ◌<◌, ◌≤◌, ◌||◌, ◌⊎◌, inl, inr, Bool, true, false, List, [], ◌∷◌, length, get_or, Option, Some, None, refl, sym, ap, ◌∙◌, subst, arith}
use Rattle.std.specs.Prelude.{◌↔◌, if◌then◌else◌}
use Rattle.std.proofs.lemmas.Bool.{cases_lt}
use Rattle.paging_model.specs.Memory.{entry_at}
use Rattle.paging_model.specs.Entries.{entry_of}
use Rattle.paging_model.specs.Registers.{pge}
use Rattle.paging_model.specs.declared.entries.Bits.{Bits}
use Rattle.phys_view.specs.Seen.{memory_of}
use Rattle.history_model.specs.CachedTranslations.{Held, held_of}
use Rattle.past_entries.specs.Fills.{FitsLevel, held_of_fill}
use Rattle.past_entries.specs.PastEntries.{AllFitLevel, WasMade}
use Rattle.past_entries.specs.ValueSpans.{AreInOrder, SpansMake, ValueMakes}
use Rattle.past_entries.specs.declared.entries.PastEntry.{PastEntry}
use Rattle.past_entries.specs.declared.fills.Fill.{Fill}
use Rattle.past_entries.proofs.EntryLaws.{any-default}
use Rattle.past_entries.proofs.SpanLaws.{spans-value, value-spans}
use Rattle.time_sets.specs.Sets.{has_time}
use Rattle.version_store.specs.Changes.{value_at}
use Rattle.version_store.specs.Spanning.{AreSpans, IsSpan}
use Rattle.stale_audit.specs.Facts.{Facts, AreTimely, made_in_pcid, made_of_value, made_with, settings_with}
use Rattle.stale_audit.specs.SlotEntries.{AllHarmless, IsHarmless, IsMadeInUse, MakesHarmless, IsMadeWith, IsTimed}
use Rattle.stale_audit.specs.declared.timed_tables.TimedTable.{TimedTable}

pub clash : (b : Bool) → b ≡ true → b ≡ false → ⊥
clash b is is-not = absurd (cc)

pub either : (a b : Bool) → (a || b) ≡ true → (a ≡ true) ⊎ (b ≡ true)
either true b h = inl refl
either false b h = inr h

pub or-left : (a b : Bool) → a ≡ true → (a || b) ≡ true
or-left true b h = refl
or-left false b h = absurd (cc)

pub or-right : (a b : Bool) → b ≡ true → (a || b) ≡ true
or-right true b h = refl
or-right false b h = h

-- spans that cover some times are in order
pub spans-order : (value : ℕ → ℕ) (before : Option ℕ) (low end : ℕ) (spans : List (ℕ × ℕ × ℕ))
    → AreSpans value before low end spans → AreInOrder spans
spans-order value before low end [] are = tt
spans-order value before low end (span ∷ rest) are =
    let one : IsSpan value low span = are.0 in
    (one.order, spans-order value (Some span.2) (span.1 + 1) end rest are.2)

-- what the spans of a known slot's values make is what the slot makes
module _ (facts : Facts) (nxe : Bool) (times : List (ℕ × ℕ)) (level address present : ℕ) (above : Bits)
    (is_present : entry_at (memory_of facts.seen) address ≡ Some present)
    (since : (t : ℕ) → has_time times t ≡ true → facts.host.horizon ≤ t) (until : (t : ℕ) → has_time times t ≡ true → t ≤ facts.end) where
  abbrev Makes : ℕ → Option Held
  Makes value = held_of (pge facts.host.regs) above (entry_of level (settings_with nxe facts.settings) value)

  made-value : (t : ℕ) → made_with facts nxe level address above t ≡ made_of_value facts nxe level address above t (Some present)
  made-value t = ap (made_of_value facts nxe level address above t) is_present

  pub spans-make : (spans : List (ℕ × ℕ × ℕ)) (held : Held) (t : ℕ)
      → AreSpans (value_at facts.kept address present) None facts.host.horizon (facts.end + 1) spans
      → SpansMake (λ value. held_of (pge facts.host.regs) above (entry_of level (settings_with nxe facts.settings) value)) times spans held t
      ↔ IsMadeWith facts nxe times level address above held t
  spans-make spans held t are = (
    (λ m.
        let by : ValueMakes Makes (value_at facts.kept address present) times facts.host.horizon (facts.end + 1) held t =
        spans-value Makes (value_at facts.kept address present) times held t None facts.host.horizon (facts.end + 1) spans are m in
        record { in_times = by.in_set; is_made = made-value t ∙ by.made }),
    (λ (made : IsMadeWith facts nxe times level address above held t).
        let low = since t made.in_times in
        let high = until t made.in_times in
        value-spans Makes (value_at facts.kept address present) times held t None facts.host.horizon (facts.end + 1) spans are
        (record { least = low; below = omega (arith, high); in_set = made.in_times; made = sym (made-value t) ∙ made.is_made })),
  )

  -- a slot with one value makes one entry, or none, at all of the times
  pub same-value : (value : ℕ) (t : ℕ)
      → AreSpans (value_at facts.kept address present) None facts.host.horizon (facts.end + 1) ((facts.host.horizon, facts.end, value) ∷ [])
      → has_time times t ≡ true → made_with facts nxe level address above t ≡ Makes value
  same-value value t are h =
      let one : IsSpan (value_at facts.kept address present) facts.host.horizon (facts.host.horizon, facts.end, value) = are.0 in
      made-value t ∙ ap Makes (one.same t (since t h) (until t h))

  pub always-none : (value : ℕ) (held : Held) (t : ℕ)
      → AreSpans (value_at facts.kept address present) None facts.host.horizon (facts.end + 1) ((facts.host.horizon, facts.end, value) ∷ [])
      → ◌≡◌ {A = Option Held} None (held_of (pge facts.host.regs) above (entry_of level (settings_with nxe facts.settings) value))
      → WasMade [] held t ↔ IsMadeWith facts nxe times level address above held t
  always-none value held t are none = (
    (λ m. absurd m),
    (λ (made : IsMadeWith facts nxe times level address above held t).
        absurd (not-some (none ∙ (sym (same-value value t are made.in_times) ∙ made.is_made)))),
  )
    where
      not-some : ◌≡◌ {A = Option Held} None (Some held) → ⊥
      not-some h = absurd (cc)

  pub always-some : (value : ℕ) (fill : Fill) (held : Held) (t : ℕ)
      → AreSpans (value_at facts.kept address present) None facts.host.horizon (facts.end + 1) ((facts.host.horizon, facts.end, value) ∷ [])
      → Some (held_of_fill fill) ≡ held_of (pge facts.host.regs) above (entry_of level (settings_with nxe facts.settings) value)
      → WasMade (record { fill = fill; times = times } ∷ []) held t ↔ IsMadeWith facts nxe times level address above held t
  always-some value fill held t are some = (
    (λ m. elim m [
      | inl h ↦ record { in_times = h.1; is_made = same-value value t are h.1 ∙ (sym some ∙ ap Some h.0) }
      | inr n ↦ absurd n
    ]),
    (λ (made : IsMadeWith facts nxe times level address above held t).
        inl (some-is (some ∙ (sym (same-value value t are made.in_times) ∙ made.is_made)), made.in_times)),
  )
    where
      some-is : Some (held_of_fill fill) ≡ Some held → held_of_fill fill ≡ held
      some-is h = cc

-- nothing is made of a slot that isn't known
pub unknown-made : (facts : Facts) (nxe : Bool) (times : List (ℕ × ℕ)) (level address : ℕ) (above : Bits) (held : Held) (t : ℕ)
    → None ≡ entry_at (memory_of facts.seen) address → WasMade [] held t ↔ IsMadeWith facts nxe times level address above held t
unknown-made facts nxe times level address above held t none = (
  (λ m. absurd m),
  (λ (made : IsMadeWith facts nxe times level address above held t).
      absurd (not-made (ap (made_of_value facts nxe level address above t) none ∙ made.is_made))),
)
  where
    not-made : ◌≡◌ {A = Option Held} None (Some held) → ⊥
    not-made h = absurd (cc)

module _ (facts : Facts) (table : TimedTable) (level address : ℕ) (above : Bits) (ready : AreTimely facts) (timed : IsTimed facts table) where
  pub with-in_use : (held : Held) (t : ℕ)
      → IsMadeWith facts false table.nxe_clear level address above held t ⊎ IsMadeWith facts true table.nxe_set level address above held t
      → IsMadeInUse facts table level address above held t
  with-in_use held t (inl made) = record {
    in_use = or-left _ _ made.in_times;
    is_made = ap (λ (b : Bool). if b then made_with facts false level address above t
        else (if has_time facts.nxe_set t then made_with facts true level address above t else None)) (timed.clear t made.in_times)
        ∙ made.is_made;
  }
  with-in_use held t (inr made) = by_test (has_time facts.nxe_clear t) refl
    where
      by_test : (b : Bool) → has_time facts.nxe_clear t ≡ b → IsMadeInUse facts table level address above held t
      by_test true is = absurd (clash (has_time facts.nxe_set t) (timed.set t made.in_times) (ready.apart t is))
      by_test false is = record {
        in_use = or-right _ _ made.in_times;
        is_made = ap (λ (b : Bool). if b then made_with facts false level address above t
            else (if has_time facts.nxe_set t then made_with facts true level address above t else None)) is
            ∙ (ap (λ (b : Bool). if b then made_with facts true level address above t else None) (timed.set t made.in_times)
            ∙ made.is_made);
      }

  pub in_use-with : (held : Held) (t : ℕ) → IsMadeInUse facts table level address above held t
      → IsMadeWith facts false table.nxe_clear level address above held t ⊎ IsMadeWith facts true table.nxe_set level address above held t
  in_use-with held t made = elim (either (has_time table.nxe_clear t) (has_time table.nxe_set t) made.in_use) [
    | inl clear ↦ inl (record { in_times = clear; is_made = sym (when-clear (timed.clear t clear)) ∙ made.is_made })
    | inr set ↦ by_test (has_time facts.nxe_clear t) refl set
  ]
    where
      when-clear : has_time facts.nxe_clear t ≡ true → made_in_pcid facts level address above t ≡ made_with facts false level address above t
      when-clear is = ap (λ (b : Bool). if b then made_with facts false level address above t
          else (if has_time facts.nxe_set t then made_with facts true level address above t else None)) is

      by_test : (b : Bool) → has_time facts.nxe_clear t ≡ b → has_time table.nxe_set t ≡ true
          → IsMadeWith facts false table.nxe_clear level address above held t ⊎ IsMadeWith facts true table.nxe_set level address above held t
      by_test true is set = absurd (clash (has_time facts.nxe_set t) (timed.set t set) (ready.apart t is))
      by_test false is set = inr (record {
        in_times = set;
        is_made = sym (ap (λ (b : Bool). if b then made_with facts false level address above t
            else (if has_time facts.nxe_set t then made_with facts true level address above t else None)) is
            ∙ ap (λ (b : Bool). if b then made_with facts true level address above t else None) (timed.set t set)) ∙ made.is_made;
      })

-- entries of a list
pub fits-at : (level : ℕ) (entries : List PastEntry) (i : ℕ) (d : PastEntry) → i < length entries → AllFitLevel level entries
    → FitsLevel level (get_or entries i d).fill
fits-at level [] i d h fit = absurd (omega arith)
fits-at level (entry ∷ entries) zero d h fit = fit.0
fits-at level (entry ∷ entries) (suc i) d h fit = fits-at level entries i d (omega arith) fit.1

pub made-at : (entries : List PastEntry) (i : ℕ) (d : PastEntry) (t : ℕ) → i < length entries
    → has_time (get_or entries i d).times t ≡ true → WasMade entries (held_of_fill (get_or entries i d).fill) t
made-at [] i d t h is = absurd (omega arith)
made-at (entry ∷ entries) zero d t h is = inl (refl, is)
made-at (entry ∷ entries) (suc i) d t h is = inr (made-at entries i d t (omega arith) is)

pub until-at : (entries : List PastEntry) (i : ℕ) (one : PastEntry) (end : ℕ) → i < length entries → one ≡ get_or entries i one
    → ((held : Held) (t : ℕ) → WasMade entries held t → t ≤ end) → (t : ℕ) → has_time one.times t ≡ true → t ≤ end
until-at entries i one end h is until t in_times =
    until (held_of_fill (get_or entries i one).fill) t
    (made-at entries i one t h (ap (λ (entry : PastEntry). has_time entry.times t) (sym is) ∙ in_times))

-- what is made of spans of values that make nothing but what is harmless
module _ (facts : Facts) (level first : ℕ) (makes : ℕ → Option Held) where
  pub spans-harmless : (at : List (ℕ × ℕ)) (held : Held) (t : ℕ) (spans : List (ℕ × ℕ × ℕ)) → AllHarmless facts level first makes spans
      → SpansMake makes at spans held t → IsHarmless facts level first held
  spans-harmless at held t [] all made = absurd made
  spans-harmless at held t (span ∷ rest) all (inl made) = all 0 span (omega arith) held made.0
  spans-harmless at held t (span ∷ rest) all (inr made) = spans-harmless at held t rest (λ k d h. all (suc k) d (omega arith)) made

  -- one value more
  pub all-more : (spans : List (ℕ × ℕ × ℕ)) (i : ℕ) (e : ℕ × ℕ × ℕ) → i < length spans
      → ((k : ℕ) (d : ℕ × ℕ × ℕ) → k < i → MakesHarmless facts level first makes (get_or spans k d).2)
      → MakesHarmless facts level first makes (get_or spans i e).2
      → (k : ℕ) (d : ℕ × ℕ × ℕ) → k < i + 1 → MakesHarmless facts level first makes (get_or spans k d).2
  all-more spans i e within so_far next k d h = elim (cases_lt k i) [
    | inl before ↦ so_far k d before
    | inr later ↦
        let same : i ≡ k = omega (arith, h, later) in
        subst (λ n. MakesHarmless facts level first makes (get_or spans n d).2) same
        (subst (λ (one : ℕ × ℕ × ℕ). MakesHarmless facts level first makes one.2) (any-default spans i e d within) next)
  ]

-- without times nothing is made
pub no-times-make : (makes : ℕ → Option Held) (at : List (ℕ × ℕ)) (held : Held) (t : ℕ) (spans : List (ℕ × ℕ × ℕ))
    → ((u : ℕ) → has_time at u ≡ false) → SpansMake makes at spans held t → ⊥
no-times-make makes at held t [] none made = absurd made
no-times-make makes at held t (span ∷ rest) none (inl made) = clash (has_time at t) made.3 (none t)
no-times-make makes at held t (span ∷ rest) none (inr made) = no-times-make makes at held t rest none made

-- what a slot makes of its values at the times of its table, where that is harmless with NXE 0 and with NXE 1
module _ (facts : Facts) (table : TimedTable) (level first address present : ℕ) (above : Bits) (ready : AreTimely facts)
    (timed : IsTimed facts table) (is_present : entry_at (memory_of facts.seen) address ≡ Some present) where
  pub slot-harmless : (spans : List (ℕ × ℕ × ℕ))
      → AreSpans (value_at facts.kept address present) None facts.host.horizon (facts.end + 1) spans
      → ((held : Held) (t : ℕ) → SpansMake (λ value. held_of (pge facts.host.regs) above
      (entry_of level (settings_with false facts.settings) value)) table.nxe_clear spans held t → IsHarmless facts level first held)
      → ((held : Held) (t : ℕ) → SpansMake (λ value. held_of (pge facts.host.regs) above
      (entry_of level (settings_with true facts.settings) value)) table.nxe_set spans held t → IsHarmless facts level first held)
      → (held : Held) (t : ℕ) → IsMadeInUse facts table level address above held t → IsHarmless facts level first held
  slot-harmless spans are clear set held t made = elim (in_use-with facts table level address above ready timed held t made) [
    | inl a ↦ clear held t ((spans-make facts false table.nxe_clear level address present above is_present
        (λ u is. ready.clear_since u (timed.clear u is)) (λ u is. ready.clear_until u (timed.clear u is)) spans held t are).1 a)
    | inr b ↦ set held t ((spans-make facts true table.nxe_set level address present above is_present
        (λ u is. ready.set_since u (timed.set u is)) (λ u is. ready.set_until u (timed.set u is)) spans held t are).1 b)
  ]
