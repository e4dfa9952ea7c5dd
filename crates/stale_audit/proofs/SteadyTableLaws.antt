-- Under a steady table all that may be held of pages is what the present walk from it comes to, and none of it is stale.
use Rattle.std.proofs.Common.{◌≡◌, ◌≢◌, ℕ, zero, suc, ◌+◌, ◌-◌, ◌*◌, ◌/◌, ◌%◌, ◌<◌, ◌≤◌, ◌&&◌, ◌||◌, inl, inr, Bool, true, false, List, [], ◌∷◌, Option, Some, None, refl, sym, ap, ◌∙◌, arith, subst}
use Rattle.std.specs.BTreeMap.{BTreeMap, get, is_at}
use Rattle.std.specs.Map.{lookup}
use Rattle.std.specs.Ordering.{nat_cmp}
use Rattle.std.specs.Prelude.{◌==◌, nat_lt, not, option_map, unwrap_or, if◌then◌else◌}
use Rattle.std.proofs.Math.Nat.{le-max_left, le-max_right}
use Rattle.std.proofs.lemmas.Bool.{cases_lt}
use Rattle.std.proofs.lemmas.Bool.Decides.{nat_tests}
use Rattle.paging_model.specs.Entries.{entry_of, is_present, joined_bits}
use Rattle.paging_model.specs.LinearAddress.{index, span}
use Rattle.paging_model.specs.Memory.{entry_at}
use Rattle.paging_model.specs.Registers.{pge}
use Rattle.paging_model.specs.Translations.{Protection, Target, granted_target, raw_target, raw_target_of, rights_of}
use Rattle.paging_model.specs.Walking.{at_entry, at_value, entry_address, own_frame, walk_from}
use Rattle.paging_model.specs.declared.entries.Bits.{Bits}
use Rattle.paging_model.specs.declared.entries.Entry.{Entry}
use Rattle.paging_model.specs.declared.entries.Entry.TheVariants as entry
use Rattle.paging_model.specs.declared.registers.Settings.{Settings}
use Rattle.paging_model.specs.declared.walks.Walk.{Walk}
use Rattle.paging_model.proofs.WalkSteps.{walk_from-step}
use Rattle.phys_view.specs.Seen.{memory_of}
use Rattle.history_model.specs.CachedTranslations.{Held, held_of}
use Rattle.history_model.specs.StaleTranslations.{Exceeds, held_target}
use Rattle.history_laws.proofs.WalkLaws.{not_over_itself, own_frame-page, some-same}
use Rattle.audit_laws.specs.declared.stale_pages.StalePage.{StalePage}
use Rattle.audit_laws.specs.Leads.{IsKept, IsTimeOf, Leads, LeadsAtOneTime}
use Rattle.audit_laws.proofs.LeadLaws.{leads-once}
use Rattle.present_pages.specs.PresentRanges.{maps}
use Rattle.present_pages.specs.declared.ranges.PresentRange.{PresentRange}
use Rattle.present_pages.specs.declared.ranges.There.{There}
use Rattle.present_pages.specs.declared.ranges.There.TheVariants as there
use Rattle.time_sets.specs.Sets.{has_time}
use Rattle.version_store.specs.Changes.{changes_of, is_changed_after, last_kept_time, last_time, old_at, old_in, value_at}
use Rattle.version_store.specs.declared.change.Change.{Change}
use Rattle.version_store.proofs.LastTimes.{last_time-kept}
use Rattle.stale_audit.specs.Facts.{Facts, AreTimely, IsOfHome, made_in_pcid, made_of_value, made_with, makes_of, present_at, settings_with, takes_of}
use Rattle.stale_audit.specs.Findings.{IsFoundIn, NothingFound}
use Rattle.stale_audit.specs.SlotEntries.{IsSteadySlot}
use Rattle.stale_audit.specs.SteadyTables.{AreKnownSteady, HadOneNxe, IsAbsent, IsSteadyBelow, IsSteadyPlace, IsSteadyTable, meaning_now}
use Rattle.stale_audit.proofs.EntryLaws.{clash}

-- changes none of which comes after a time
pub none-after : (changes : List Change) (offset t : ℕ) → last_time changes ≤ t → old_in changes offset t ≡ None
none-after [] offset t h = refl
none-after (one ∷ rest) offset t h =
    let left = le-max_left one.time (last_time rest) in
    let right = le-max_right one.time (last_time rest) in
    let test : (one.offset == offset && nat_lt t one.time) ≡ false = grind (arith, nat_tests, h, left) in
    ap (λ (b : Bool). if b then Some one.old else old_in rest offset t) test ∙ none-after rest offset t (omega (arith, h, right))

-- a slot without a change after a time is none that such a change gives a value
unchanged-after : (changes : List Change) (offset s t : ℕ) → s ≤ t → is_changed_after changes offset s ≡ false → old_in changes offset t ≡ None
unchanged-after [] offset s t h none = refl
unchanged-after (one ∷ rest) offset s t h none =
    let first = or-false (one.offset == offset && nat_lt s one.time) (is_changed_after rest offset s) none in
    let test : (one.offset == offset && nat_lt t one.time) ≡ false = let is = first.0 in grind (arith, nat_tests, h, is) in
    ap (λ (b : Bool). if b then Some one.old else old_in rest offset t) test ∙ unchanged-after rest offset s t h first.1
  where
    or-false : (a b : Bool) → (a || b) ≡ false → (a ≡ false) × (b ≡ false)
    or-false false b h = (refl, h)
    or-false true b h = absurd (cc)

-- a slot that didn't change after the horizon held its present value since
pub steady-slot : (facts : Facts) (frame i : ℕ) → frame % 4096 ≡ 0 → i < 512
    → is_changed_after (changes_of facts.kept (frame / 4096)) (8 * i) facts.host.horizon ≡ false → IsSteadySlot facts (frame + 8 * i)
steady-slot facts frame i aligned below none present t late =
    let number : (frame + 8 * i) / 4096 ≡ frame / 4096 = omega arith in
    let place : (frame + 8 * i) % 4096 ≡ 8 * i = omega arith in
    ap (λ (old : Option ℕ). unwrap_or old present)
    (ap (λ n. old_in (changes_of facts.kept n) ((frame + 8 * i) % 4096) t) number
    ∙ (ap (λ n. old_in (changes_of facts.kept (frame / 4096)) n t) place
    ∙ unchanged-after (changes_of facts.kept (frame / 4096)) (8 * i) facts.host.horizon t late none))

-- no change after a time is none after a later one
old-later : (changes : List Change) (offset s t : ℕ) → s ≤ t → old_in changes offset s ≡ None → old_in changes offset t ≡ None
old-later [] offset s t h none = refl
old-later (one ∷ rest) offset s t h none =
    by_test (one.offset == offset && nat_lt s one.time) (one.offset == offset && nat_lt t one.time) refl refl none (λ n. old-later rest offset s t h n)
  where
    by_test : (a b : Bool) → (one.offset == offset && nat_lt s one.time) ≡ a → (one.offset == offset && nat_lt t one.time) ≡ b
        → (if a then Some one.old else old_in rest offset s) ≡ None → (old_in rest offset s ≡ None → old_in rest offset t ≡ None)
        → (if b then Some one.old else old_in rest offset t) ≡ None
    by_test true b e f n later = absurd (cc)
    by_test false true e f n later = absurd (grind (arith, nat_tests, e, f))
    by_test false false e f n later = later n

-- a slot without a change after the horizon
since-unchanged : (facts : Facts) (address : ℕ) → old_at facts.kept address facts.host.horizon ≡ None → IsSteadySlot facts address
since-unchanged facts address none present t late =
    ap (λ (old : Option ℕ). unwrap_or old present) (old-later (changes_of facts.kept (address / 4096)) (address % 4096) facts.host.horizon t late none)

-- an entry of a level that has been the same since the horizon, and what is held of it
record IsSteadyEntry (facts : Facts) (level address : ℕ) (above : Bits) (held : Held) : Type 0 where
  pub number : ℕ
  pub is_number : entry_at (memory_of facts.seen) address ≡ Some number
  pub is_held : held_of (pge facts.host.regs) above (entry_of level facts.settings number) ≡ Some held

module _ (facts : Facts) (ready : AreTimely facts) (one_nxe : HadOneNxe facts) where
  -- at times in the PCID the settings were what they are now
  settings-clear : (t : ℕ) → has_time facts.nxe_clear t ≡ true → settings_with false facts.settings ≡ facts.settings
  settings-clear t is = by_nxe facts.settings.nxe refl (one_nxe t)
    where
      by_nxe : (b : Bool) → facts.settings.nxe ≡ b → has_time (if b then facts.nxe_clear else facts.nxe_set) t ≡ false
          → settings_with false facts.settings ≡ facts.settings
      by_nxe true e none = absurd (clash (has_time facts.nxe_clear t) is none)
      by_nxe false e none = ap (λ (nxe : Bool). settings_with nxe facts.settings) (sym e)

  settings-set : (t : ℕ) → has_time facts.nxe_set t ≡ true → settings_with true facts.settings ≡ facts.settings
  settings-set t is = by_nxe facts.settings.nxe refl (one_nxe t)
    where
      by_nxe : (b : Bool) → facts.settings.nxe ≡ b → has_time (if b then facts.nxe_clear else facts.nxe_set) t ≡ false
          → settings_with true facts.settings ≡ facts.settings
      by_nxe false e none = absurd (clash (has_time facts.nxe_set t) is none)
      by_nxe true e none = ap (λ (nxe : Bool). settings_with nxe facts.settings) (sym e)

  -- what was made of an unchanged slot is made of its present value
  with-now : (nxe : Bool) (level address t : ℕ) (above : Bits) (held : Held) → settings_with nxe facts.settings ≡ facts.settings
      → facts.host.horizon ≤ t → IsSteadySlot facts address → (present : Option ℕ) → entry_at (memory_of facts.seen) address ≡ present
      → made_of_value facts nxe level address above t present ≡ Some held → IsSteadyEntry facts level address above held
  with-now nxe level address t above held same late steady None is made = absurd (cc)
  with-now nxe level address t above held same late steady (Some number) is made =
      let value : value_at facts.kept address number t ≡ number = steady number t late in
      record {
        number = number;
        is_number = is;
        is_held = sym (ap (λ (s : Settings). held_of (pge facts.host.regs) above (entry_of level s (value_at facts.kept address number t))) same
            ∙ ap (λ v. held_of (pge facts.host.regs) above (entry_of level facts.settings v)) value) ∙ made;
      }

  made-now : (level address t : ℕ) (above : Bits) (held : Held) → IsSteadySlot facts address
      → made_in_pcid facts level address above t ≡ Some held → IsSteadyEntry facts level address above held
  made-now level address t above held steady made = by_test (has_time facts.nxe_clear t) (has_time facts.nxe_set t) refl refl made
    where
      by_test : (clear set : Bool) → has_time facts.nxe_clear t ≡ clear → has_time facts.nxe_set t ≡ set
          → (if clear then made_with facts false level address above t else (if set then made_with facts true level address above t else None)) ≡ Some held
          → IsSteadyEntry facts level address above held
      by_test true set is e m = with-now false level address t above held (settings-clear t is) (ready.clear_since t is) steady (entry_at (memory_of facts.seen) address) refl m
      by_test false true e is m = with-now true level address t above held (settings-set t is) (ready.set_since t is) steady (entry_at (memory_of facts.seen) address) refl m
      by_test false false e f m = absurd (cc)

-- the page of a held translation, with its protection
abbrev page_of : ℕ → ℕ → Held → Option (Target Protection)
page_of k x held =
    Some (record { frame = own_frame k x held.frame; kind = record { bits = held.bits; key = held.key } })

-- at the entry of which a translation is held, a walk ends at its page
at-leaf : (pages_are_global : Bool) (above : Bits) (level x : ℕ) (held : Held) (onward : ℕ → Bits → Walk) (meaning : Entry) → held.leaf ≡ true
    → held_of pages_are_global above meaning ≡ Some held → raw_target_of (at_entry onward level x above meaning) ≡ page_of level x held
at-leaf g above level x held onward entry.Absent leaf h = absurd (cc)
at-leaf g above level x held onward entry.Reserved leaf h = absurd (cc)
at-leaf g above level x held onward (entry.Table frame bits) leaf h =
    let made : Held = record { leaf = false; frame = frame; bits = joined_bits above bits; key = 0; global = false } in
    absurd (clash held.leaf leaf (ap (λ (one : Held). one.leaf) (sym (some-same made held h))))
at-leaf g above level x held onward (entry.Leaf frame bits key global) leaf h =
    let made : Held = record { leaf = true; frame = frame; bits = joined_bits above bits; key = key; global = global && g } in
    ap (page_of level x) (some-same made held h)

-- at the entry of which a reference is held, it goes on from its table
record IsReferenceNow (above : Bits) (level x : ℕ) (held : Held) (onward : ℕ → Bits → Walk) (meaning : Entry) : Type 0 where
  pub bits : Bits
  pub is_table : meaning ≡ entry.Table held.frame bits
  pub goes_on : at_entry onward level x above meaning ≡ onward held.frame held.bits

at-table : (pages_are_global : Bool) (above : Bits) (level x : ℕ) (held : Held) (onward : ℕ → Bits → Walk) (meaning : Entry) → held.leaf ≡ false
    → held_of pages_are_global above meaning ≡ Some held → IsReferenceNow above level x held onward meaning
at-table g above level x held onward entry.Absent leaf h = absurd (cc)
at-table g above level x held onward entry.Reserved leaf h = absurd (cc)
at-table g above level x held onward (entry.Table frame bits) leaf h =
    let made : Held = record { leaf = false; frame = frame; bits = joined_bits above bits; key = 0; global = false } in
    let same : made ≡ held = some-same made held h in
    record { bits = bits; is_table = ap (λ (one : Held). entry.Table one.frame bits) same; goes_on = ap (λ (one : Held). onward one.frame one.bits) same }
at-table g above level x held onward (entry.Leaf frame bits key global) leaf h =
    let made : Held = record { leaf = true; frame = frame; bits = joined_bits above bits; key = key; global = global && g } in
    absurd (clash held.leaf (ap (λ (one : Held). one.leaf) (sym (some-same made held h))) leaf)

-- an entry is one of 512
index-below : (level x : ℕ) → index level x < 512
index-below level x = below (x / span level)
  where
    below : (n : ℕ) → n % 512 < 512
    below n = omega arith

module _ (facts : Facts) (ready : AreTimely facts) (one_nxe : HadOneNxe facts) (x : ℕ) where
  abbrev Walked : ℕ → ℕ → Bits → Walk
  Walked level table bits = walk_from (memory_of facts.seen) facts.settings level x table bits

  -- the walk by an entry that is known
  walked : (lower table : ℕ) (bits : Bits) (held : Held) (now : IsSteadyEntry facts (suc lower) (entry_address (suc lower) x table) bits held)
      → Walked (suc lower) table bits ≡ at_entry (λ frame joined. Walked lower frame joined) (suc lower) x bits (entry_of (suc lower) facts.settings now.number)
  walked lower table bits held now =
      let lower_is : suc lower - 1 ≡ lower = omega arith in
      subst (λ n. Walked (suc lower) table bits ≡ at_entry (λ frame joined. Walked n frame joined) (suc lower) x bits (entry_of (suc lower) facts.settings now.number)) lower_is
      (walk_from-step (memory_of facts.seen) facts.settings x (suc lower) table bits (omega arith)
      ∙ ap (at_value (λ frame joined. Walked (suc lower - 1) frame joined) facts.settings (suc lower) x bits) now.is_number)

  -- all that comes from one slot, where what comes from the table below it is known
  led-from : (InUse : ℕ → Type 0) (lower table : ℕ) (bits : Bits) (k : ℕ) (held : Held) → IsSteadySlot facts (entry_address (suc lower) x table)
      → ((Below : ℕ → Type 0) (frame : ℕ) (above joined : Bits) → meaning_now facts (suc lower) (entry_address (suc lower) x table) ≡ Some (entry.Table frame above)
      → Leads (makes_of facts) (takes_of facts) facts.end x Below lower frame joined k held → raw_target_of (Walked lower frame joined) ≡ page_of k x held)
      → Leads (makes_of facts) (takes_of facts) facts.end x InUse (suc lower) table bits k held
      → raw_target_of (Walked (suc lower) table bits) ≡ page_of k x held
  led-from InUse lower table bits k held same under (inl leaf) =
      let now : IsSteadyEntry facts (suc lower) (entry_address (suc lower) x table) bits held =
      made-now facts ready one_nxe (suc lower) (entry_address (suc lower) x table) leaf.2.t bits held same leaf.2.is_made in
      ap raw_target_of (walked lower table bits held now)
      ∙ (at-leaf (pge facts.host.regs) bits (suc lower) x held (λ frame joined. Walked lower frame joined) (entry_of (suc lower) facts.settings now.number) leaf.1 now.is_held
      ∙ ap (λ n. page_of n x held) (sym leaf.0))
  led-from InUse lower table bits k held same under (inr l) =
      let above : Held = l.0 in
      let Below = λ (u : ℕ). IsKept (makes_of facts) (takes_of facts) facts.end x InUse (suc lower) table bits u above in
      let once : LeadsAtOneTime (makes_of facts) (takes_of facts) facts.end x Below lower above.frame above.bits k held =
      leads-once (makes_of facts) (takes_of facts) facts.end x Below lower above.frame above.bits k held l.2 in
      let now : IsSteadyEntry facts (suc lower) (entry_address (suc lower) x table) bits above =
      made-now facts ready one_nxe (suc lower) (entry_address (suc lower) x table) once.in_use.t bits above same once.in_use.is_made in
      let reads : IsReferenceNow bits (suc lower) x above (λ frame joined. Walked lower frame joined) (entry_of (suc lower) facts.settings now.number) =
      at-table (pge facts.host.regs) bits (suc lower) x above (λ frame joined. Walked lower frame joined) (entry_of (suc lower) facts.settings now.number) l.1 now.is_held in
      ap raw_target_of (walked lower table bits above now ∙ reads.goes_on)
      ∙ under Below above.frame reads.bits above.bits
      (ap (option_map (λ value. entry_of (suc lower) facts.settings value)) now.is_number ∙ ap (λ (one : Entry). Some one) reads.is_table) l.2

  steady-leads : (InUse : ℕ → Type 0) (level table : ℕ) (bits : Bits) (k : ℕ) (held : Held) → IsSteadyTable facts level table
      → Leads (makes_of facts) (takes_of facts) facts.end x InUse level table bits k held
      → raw_target_of (Walked level table bits) ≡ page_of k x held
  steady-leads InUse zero table bits k held steady l = absurd l
  steady-leads InUse (suc lower) table bits k held steady l =
      let slot = steady (index (suc lower) x) (index-below (suc lower) x) in
      led-from InUse lower table bits k held (since-unchanged facts (entry_address (suc lower) x table) slot.0)
      (λ Below frame above joined is leads. steady-leads Below lower frame joined k held (slot.1 frame above is) leads) l

  -- the same of a steady slot
  pub place-leads : (InUse : ℕ → Type 0) (level table : ℕ) (bits : Bits) (k : ℕ) (held : Held) → 1 ≤ level → IsSteadyPlace facts level (entry_address level x table)
      → Leads (makes_of facts) (takes_of facts) facts.end x InUse level table bits k held
      → raw_target_of (Walked level table bits) ≡ page_of k x held
  place-leads InUse zero table bits k held least steady l = absurd (omega arith)
  place-leads InUse (suc lower) table bits k held least steady l =
      let lower_is : suc lower - 1 ≡ lower = omega arith in
      led-from InUse lower table bits k held steady.same
      (λ Below frame above joined is leads. steady-leads Below lower frame joined k held (subst (λ n. IsSteadyTable facts n frame) lower_is (steady.below frame above is)) leads) l

-- what the present walk leads to isn't stale
pub led-by-walk : (facts : Facts) (InUse : ℕ → Type 0) (first end level table : ℕ) (bits : Bits) (one : StalePage) (found : IsFoundIn facts first end InUse level table bits one)
    → raw_target (memory_of facts.seen) facts.settings facts.home one.page ≡ page_of found.k one.page found.held → ⊥
led-by-walk facts InUse first end level table bits one found led =
    let x = one.page in
    let target = λ (frame : ℕ). let at : Target ℕ = record { frame = frame; kind = rights_of facts.host.regs x (record { bits = found.held.bits; key = found.held.key }) } in Some at in
    let present : present_at facts x ≡ Some (held_target facts.host.regs found.k x found.held) =
    ap (granted_target facts.host.regs x) led
    ∙ ap target (own_frame-page found.k found.held.frame x found.page.aligned) in
    not_over_itself (held_target facts.host.regs found.k x found.held)
    (subst (λ at. Exceeds at (held_target facts.host.regs found.k x found.held)) present found.stale.exceeds)

-- a steady table to which the present walk leads leads to nothing stale
pub steady-settled : (facts : Facts) (range : PresentRange) (table : ℕ) (bits : Bits) → AreTimely facts → HadOneNxe facts → IsOfHome facts range
    → range.there ≡ there.Table table bits → IsSteadyTable facts (range.level - 1) table
    → NothingFound facts range.first (range.first + span range.level) (range.level - 1) table bits
steady-settled facts range table bits ready one_nxe home there_is steady in_use one found =
    let x = one.page in
    led-by-walk facts (IsTimeOf (has_time in_use)) range.first (range.first + span range.level) (range.level - 1) table bits one found
    (sym (home x found.page.least found.page.below found.page.aligned)
    ∙ (ap (λ (at : There). maps (memory_of facts.seen) facts.settings range.level range.first at x) there_is
    ∙ steady-leads facts ready one_nxe x (IsTimeOf (has_time in_use)) (range.level - 1) table bits found.k found.held steady found.leads))

-- where nothing changed after the horizon, every table is steady
pub all_steady : (facts : Facts) (level table : ℕ) → last_kept_time facts.kept ≤ facts.host.horizon → IsSteadyTable facts level table
all_steady facts zero table unchanged = tt
all_steady facts (suc lower) table unchanged = λ i below.
    let frame = (table + 8 * i) / 4096 in
    let least = last_time-kept facts.kept frame in (
      none-after (changes_of facts.kept frame) ((table + 8 * i) % 4096) facts.host.horizon (omega (arith, unchanged, least)),
      λ at bits is. all_steady facts lower at unchanged,
    )

-- a table of level 1 of which no slot changed
pub last_steady : (facts : Facts) (table : ℕ) → table % 4096 ≡ 0 → last_time (changes_of facts.kept (table / 4096)) ≤ facts.host.horizon
    → IsSteadyTable facts 1 table
last_steady facts table aligned unchanged = λ i below.
    let frame : table / 4096 ≡ (table + 8 * i) / 4096 = omega arith in (
      none-after (changes_of facts.kept ((table + 8 * i) / 4096)) ((table + 8 * i) % 4096) facts.host.horizon
          (subst (λ n. last_time (changes_of facts.kept n) ≤ facts.host.horizon) frame unchanged),
      λ at bits is. tt,
    )

-- a table of which no slot changed, nor one of the tables below
pub table-steady : (facts : Facts) (level table : ℕ) → 1 ≤ level → table % 4096 ≡ 0 → last_time (changes_of facts.kept (table / 4096)) ≤ facts.host.horizon
    → ((i : ℕ) → i < 512 → IsSteadyBelow facts level (table + 8 * i)) → IsSteadyTable facts level table
table-steady facts zero table least aligned unchanged below = absurd (omega arith)
table-steady facts (suc lower) table least aligned unchanged below = λ i within.
    let frame : table / 4096 ≡ (table + 8 * i) / 4096 = omega arith in
    let lower_is : suc lower - 1 ≡ lower = omega arith in (
      none-after (changes_of facts.kept ((table + 8 * i) / 4096)) ((table + 8 * i) % 4096) facts.host.horizon
          (subst (λ n. last_time (changes_of facts.kept n) ≤ facts.host.horizon) frame unchanged),
      λ at bits is. subst (λ n. IsSteadyTable facts n at) lower_is (below i within at bits is),
    )

-- an absent entry references no table
pub absent-below : (facts : Facts) (level slot : ℕ) → IsAbsent (entry_at (memory_of facts.seen) slot) → IsSteadyBelow facts level slot
unfolding entry_of
absent-below facts level slot absent frame bits h = by_entry (entry_at (memory_of facts.seen) slot) absent h
  where
    by_test : (b : Bool) (other : Entry) → b ≡ false → (if not b then entry.Absent else other) ≡ entry.Table frame bits → IsSteadyTable facts (level - 1) frame
    by_test true other is h = absurd (cc)
    by_test false other is h = absurd (cc)

    by_entry : (found : Option ℕ) → IsAbsent found → option_map (λ value. entry_of level facts.settings value) found ≡ Some (entry.Table frame bits)
        → IsSteadyTable facts (level - 1) frame
    by_entry None none h = absurd (cc)
    by_entry (Some value) none h = by_test (is_present value) _ none (some-same _ _ h)

-- as far as the next present one, all of which are absent
pub steady-absent : (facts : Facts) (level at from i : ℕ) → ((k : ℕ) → from ≤ k → k < i → IsAbsent (entry_at (memory_of facts.seen) (at + 8 * k)))
    → (k : ℕ) → from ≤ k → k < i → IsSteadyBelow facts level (at + 8 * k)
steady-absent facts level at from i absent k low high = absent-below facts level (at + 8 * k) (absent k low high)

-- all slots of a table, where none is left
pub all-below : (facts : Facts) (level at table n : ℕ) → at ≡ table → ((k : ℕ) → 0 ≤ k → k < n → IsSteadyBelow facts level (at + 8 * k))
    → (n == 512) ≡ true → (i : ℕ) → i < 512 → IsSteadyBelow facts level (table + 8 * i)
all-below facts level at table n at_is steady all i within =
    let is : n ≡ 512 = grind (arith, nat_tests, all) in
    subst (λ start. IsSteadyBelow facts level (start + 8 * i)) at_is (steady i (omega arith) (omega (arith, is, within)))

-- the tables that slots reference up to one, which is looked at, and further up to the next present one
pub steady-on : (facts : Facts) (level at from i j : ℕ) → ((k : ℕ) → from ≤ k → k < i → IsSteadyBelow facts level (at + 8 * k))
    → IsSteadyBelow facts level (at + 8 * i) → ((k : ℕ) → i + 1 ≤ k → k < j → IsAbsent (entry_at (memory_of facts.seen) (at + 8 * k)))
    → (k : ℕ) → from ≤ k → k < j → IsSteadyBelow facts level (at + 8 * k)
steady-on facts level at from i j before here absent k low high = elim (cases_lt k i) [
  | inl less ↦ before k low less
  | inr least ↦ elim (cases_lt i k) [
    | inl more ↦ absent-below facts level (at + 8 * k) (absent k (omega (arith, more)) high)
    | inr most ↦ let is : i ≡ k = omega (arith, least, most) in subst (λ n. IsSteadyBelow facts level (at + 8 * n)) is here
  ]
]

-- what is known of tables, with one more
pub known-more : (facts : Facts) (known more : BTreeMap ℕ Bool) (level table key : ℕ) (steady : Bool) → level ≤ 5 → table % 4096 ≡ 0 → key ≡ table + level
    → AreKnownSteady facts known → (steady ≡ true → IsSteadyTable facts level table) → get nat_cmp more key ≡ Some steady
    → ((other : ℕ) → other ≢ key → get nat_cmp more other ≡ get nat_cmp known other) → AreKnownSteady facts more
known-more facts known more level table key steady most aligned key_is were is same others = record {
  each = λ l t high whole h. by_test l t high whole (were.each l t high whole) h (t + l == key) refl;
}
  where
    is-true : (a b : Bool) → Some a ≡ Some b → b ≡ true → a ≡ true
    is-true a b h e = cc

    by_test : (l t : ℕ) → l ≤ 5 → t % 4096 ≡ 0 → (get nat_cmp known (t + l) ≡ Some true → IsSteadyTable facts l t)
        → get nat_cmp more (t + l) ≡ Some true → (b : Bool) → (t + l == key) ≡ b → IsSteadyTable facts l t
    by_test l t high whole earlier h true e =
        let sum : t + l ≡ key = grind (arith, nat_tests, e) in
        let level_is : level ≡ l = omega (arith, sum, key_is, aligned, whole, most, high) in
        let table_is : table ≡ t = omega (arith, sum, key_is, level_is) in
        let held : steady ≡ true = is-true steady true (sym same ∙ (ap (get nat_cmp more) (sym sum) ∙ h)) refl in
        subst (λ n. IsSteadyTable facts n t) level_is (subst (λ n. IsSteadyTable facts level n) table_is (is held))
    by_test l t high whole earlier h false e =
        let other : t + l ≢ key = λ q. absurd (grind (arith, nat_tests, e, q)) in
        earlier (sym (others (t + l) other) ∙ h)

pub known-same : (facts : Facts) (known more : BTreeMap ℕ Bool) → ((other : ℕ) → get nat_cmp more other ≡ get nat_cmp known other)
    → AreKnownSteady facts known → AreKnownSteady facts more
known-same facts known more same were = record { each = λ l t high whole h. were.each l t high whole (sym (same (t + l)) ∙ h) }

pub known-none : (facts : Facts) (known : BTreeMap ℕ Bool) → known.entries ≡ [] → AreKnownSteady facts known
known-none facts known none = record { each = λ l t high whole h. absurd (nothing (lookup (is_at (nat_cmp (t + l))) known.entries) (ap (lookup (is_at (nat_cmp (t + l)))) none) h) }
  where
    nothing : (found : Option Bool) → found ≡ None → found ≡ Some true → ⊥
    nothing found a b = absurd (cc)
