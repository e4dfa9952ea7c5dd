-- What is stale is found, and the other way round.
use Rattle.std.proofs.Common.{◌≡◌, ℕ, ◌-◌, ◌%◌, ◌≤◌, Bool, true, false, Option, Some, None, sym, ap, ◌∙◌, subst}
use Rattle.std.specs.Prelude.{not, if◌then◌else◌, ◌↔◌}
use Rattle.std.proofs.Math.Nat.{mul-mod_left}
use Rattle.paging_model.specs.BitRanges.{field}
use Rattle.paging_model.specs.Memory.{entry_at}
use Rattle.paging_model.specs.Entries.{entry_of, is_leaf, is_present, is_reserved, page_frame, bits_of, is_global, table_frame, root_bits}
use Rattle.paging_model.specs.Entries as entries
use Rattle.paging_model.specs.Registers.{la57, pge}
use Rattle.paging_model.specs.Translations.{granted_target, present_target, raw_target}
use Rattle.paging_model.specs.Walking.{entry_address, top_level}
use Rattle.paging_model.specs.declared.entries.Bits.{Bits}
use Rattle.paging_model.specs.declared.entries.Entry.{Entry}
use Rattle.paging_model.specs.declared.entries.Entry.TheVariants as entry
use Rattle.paging_model.specs.declared.registers.Regs.{Regs}
use Rattle.paging_model.specs.declared.registers.Settings.{Settings}
use Rattle.phys_view.specs.Seen.{memory_of}
use Rattle.history_model.specs.CachedTranslations.{Held, held_of}
use Rattle.history_model.specs.History.{History, machine, memory, regs, time}
use Rattle.history_model.specs.StaleTranslations.{Exceeds, excess_over, held_target}
use Rattle.history_laws.specs.MomentsByTime.{moment_at}
use Rattle.time_sets.specs.Sets.{has_time}
use Rattle.audit_laws.specs.Leads.{Leads, LeadsAtOneTime}
use Rattle.audit_laws.specs.MadeAtTimes.{IsLedTo, IsRootAt, entry_taken_at, made_at}
use Rattle.audit_laws.specs.declared.stale_pages.StalePage.{StalePage}
use Rattle.audit_laws.proofs.DescentLaws.{held_led, led_held}
use Rattle.audit_laws.proofs.LeadLaws.{leads-once, leads-same}
use Rattle.version_store.specs.Changes.{value_at}
use Rattle.stale_audit.specs.Facts.{Facts, made_of_value, made_with, makes_of, present_at, settings_with, takes_of}
use Rattle.audit_points.specs.StandingFacts.{IsFoundUnderRoots, IsStaleHeldUnder, FactsStandFor}
use Rattle.audit_points.proofs.KeptLaws.{made-same, taken-same}

abbrev IsWhole : Entry → Type 0
IsWhole (entry.Table frame bits) = frame % 4096 ≡ 0
IsWhole _ = Unit {0}

entry-whole : (level value : ℕ) (settings : Settings) → IsWhole (entry_of level settings value)
unfolding entry_of
entry-whole level value settings = go (not (is_present value)) (is_reserved level settings value) (is_leaf level value)
  where
    go : (a b c : Bool) → IsWhole (if a then entry.Absent else (if b then entry.Reserved else (if c then entry.Leaf (page_frame level value) (bits_of value) (entries.protection_key value) (is_global value) else entry.Table (table_frame value) (bits_of value))))
    go true b c = tt
    go false true c = tt
    go false false true = tt
    go false false false = mul-mod_left (field value 51 12) 4096

held-whole : (pge : Bool) (above : Bits) (e : Entry) (held : Held) → IsWhole e → held_of pge above e ≡ Some held → held.leaf ≡ false → held.frame % 4096 ≡ 0
held-whole pge above entry.Absent held w h l = absurd (cc)
held-whole pge above entry.Reserved held w h l = absurd (cc)
held-whole pge above (entry.Table frame bits) held w h l = ap (λ n. n % 4096) (sym (frame-is _ held h)) ∙ w
  where
    frame-is : (a b : Held) → Some a ≡ Some b → a.frame ≡ b.frame
    frame-is a b q = let e : a ≡ b = cc in ap (λ (x : Held). x.frame) e
held-whole pge above (entry.Leaf frame bits key global) held w h l = absurd (clash _ (leaf-is _ held h) l)
  where
    leaf-is : (a b : Held) → Some a ≡ Some b → b.leaf ≡ a.leaf
    leaf-is a b q = let e : a ≡ b = cc in ap (λ (x : Held). x.leaf) (sym e)

    clash : (b : Bool) → b ≡ true → b ≡ false → ⊥
    clash b e f = absurd (cc)

then-whole : (facts : Facts) (flag : Bool) (level address t : ℕ) (bits : Bits) (held : Held) (read : Option ℕ) → made_of_value facts flag level address bits t read ≡ Some held → held.leaf ≡ false → held.frame % 4096 ≡ 0
then-whole facts flag level address t bits held None h l = absurd (cc)
then-whole facts flag level address t bits held (Some now) h l =
    held-whole (pge facts.host.regs) bits (entry_of level (settings_with flag facts.settings) (value_at facts.kept address now t)) held (entry-whole level (value_at facts.kept address now t) (settings_with flag facts.settings)) h l

made-whole : (facts : Facts) (level table x t : ℕ) (bits : Bits) (held : Held) → makes_of facts level table bits x t ≡ Some held → held.leaf ≡ false → held.frame % 4096 ≡ 0
made-whole facts level table x t bits held h l = by_test (has_time facts.nxe_clear t) (has_time facts.nxe_set t) h
  where
    by_test : (a b : Bool) → (if a then made_with facts false level (entry_address level x table) bits t else (if b then made_with facts true level (entry_address level x table) bits t else None)) ≡ Some held → held.frame % 4096 ≡ 0
    by_test true b q = then-whole facts false level (entry_address level x table) t bits held (entry_at (memory_of facts.seen) (entry_address level x table)) q l
    by_test false true q = then-whole facts true level (entry_address level x table) t bits held (entry_at (memory_of facts.seen) (entry_address level x table)) q l
    by_test false false q = absurd (cc)

module _ (facts : Facts) (history : History) (level : ℕ) (one : StalePage) (stand : FactsStandFor facts history) (top : level ≡ top_level facts.settings) where
  la57-same : (t : ℕ) (known : Regs) → t ≤ time history → regs (moment_at history t) facts.host.number ≡ Some known → la57 known ≡ facts.settings.la57
  la57-same t known within is_known = stand.host.la57_is t known within is_known ∙ sym (ap (λ (s : Settings). s.la57) stand.settings_is)

  -- a root that leads somewhere was the root at some time
  record IsRoot (at table : ℕ) : Type 0 where
    pub aligned : table % 4096 ≡ 0
    pub level_is : at ≡ level

  root-is : (at table t : ℕ) → IsRootAt history facts.host.number facts.under at table t → IsRoot at table
  root-is at table t r = record {
    aligned = ap (λ n. n % 4096) r.root ∙ mul-mod_left (field r.known.cr3 ((machine history).m - 1) 12) 4096;
    level_is = r.top ∙ (ap (λ (b : Bool). if b then 5 else 4) (la57-same t r.known r.is_in.within r.is_in.is_known) ∙ sym top);
  }

  onward : (k : ℕ) (held : Held) (table : ℕ) → table % 4096 ≡ 0
      → Leads (made_at history facts.host.number facts.under) (entry_taken_at history facts.host.number facts.under) (time history) one.page (IsRootAt history facts.host.number facts.under level table) level table root_bits k held
      → Leads (makes_of facts) (takes_of facts) facts.end one.page (IsRootAt history facts.host.number facts.under level table) level table root_bits k held
  onward k held table aligned l =
      subst (λ n. Leads (makes_of facts) (takes_of facts) n one.page (IsRootAt history facts.host.number facts.under level table) level table root_bits k held) (sym stand.end_is)
      (leads-same (made_at history facts.host.number facts.under) (makes_of facts) (entry_taken_at history facts.host.number facts.under) (takes_of facts) (time history)
      (λ lev tab x t bits al. sym (made-same facts history lev tab x t bits stand al)) (λ lev x t h. sym (taken-same facts history lev x t h stand))
      (λ lev tab x t bits h al m leaf. made-whole facts lev tab x t bits h (made-same facts history lev tab x t bits stand al ∙ m) leaf)
      one.page (IsRootAt history facts.host.number facts.under level table) (IsRootAt history facts.host.number facts.under level table) level table root_bits k held aligned (λ t r. r) l)

  back : (k : ℕ) (held : Held) (table : ℕ) → table % 4096 ≡ 0
      → Leads (makes_of facts) (takes_of facts) facts.end one.page (IsRootAt history facts.host.number facts.under level table) level table root_bits k held
      → Leads (made_at history facts.host.number facts.under) (entry_taken_at history facts.host.number facts.under) (time history) one.page (IsRootAt history facts.host.number facts.under level table) level table root_bits k held
  back k held table aligned l =
      leads-same (makes_of facts) (made_at history facts.host.number facts.under) (takes_of facts) (entry_taken_at history facts.host.number facts.under) (time history)
      (λ lev tab x t bits al. made-same facts history lev tab x t bits stand al) (λ lev x t h. taken-same facts history lev x t h stand)
      (λ lev tab x t bits h al m leaf. made-whole facts lev tab x t bits h m leaf)
      one.page (IsRootAt history facts.host.number facts.under level table) (IsRootAt history facts.host.number facts.under level table) level table root_bits k held aligned (λ t r. r)
      (subst (λ n. Leads (makes_of facts) (takes_of facts) n one.page (IsRootAt history facts.host.number facts.under level table) level table root_bits k held) stand.end_is l)

  present-is : present_at facts one.page ≡ present_target (memory history) (machine history) facts.host.regs facts.home one.page
  present-is = ap (λ m. granted_target facts.host.regs one.page (raw_target m facts.settings facts.home one.page)) stand.memory_is
      ∙ ap (λ s. granted_target facts.host.regs one.page (raw_target (memory history) s facts.home one.page)) stand.settings_is

  stale-found : IsStaleHeldUnder facts history level one → IsFoundUnderRoots facts history level one
  stale-found s = by_level led.top led.leads
    where
      led : IsLedTo history facts.host.number facts.under s.k one.page s.held
      led = held_led history facts.host.number facts.under s.k one.page s.held s.leaf s.may_hold

      by_level : (at : ℕ) → Leads (made_at history facts.host.number facts.under) (entry_taken_at history facts.host.number facts.under) (time history) one.page (IsRootAt history facts.host.number facts.under at led.root) at led.root root_bits s.k s.held → IsFoundUnderRoots facts history level one
      by_level at leads =
          let once : LeadsAtOneTime (made_at history facts.host.number facts.under) (entry_taken_at history facts.host.number facts.under) (time history) one.page (IsRootAt history facts.host.number facts.under at led.root) at led.root root_bits s.k s.held =
          leads-once (made_at history facts.host.number facts.under) (entry_taken_at history facts.host.number facts.under) (time history) one.page (IsRootAt history facts.host.number facts.under at led.root) at led.root root_bits s.k s.held leads in
          let root : IsRoot at led.root = root-is at led.root once.t once.in_use in
          record {
            page = s.page;
            root = led.root;
            k = s.k;
            held = s.held;
            leaf = s.leaf;
            leads = onward s.k s.held led.root root.aligned
                (subst (λ n. Leads (made_at history facts.host.number facts.under) (entry_taken_at history facts.host.number facts.under) (time history) one.page (IsRootAt history facts.host.number facts.under n led.root) n led.root root_bits s.k s.held) root.level_is leads);
            stale = record {
              asked = s.asked;
              exceeds = subst (λ there. Exceeds there (held_target facts.host.regs s.k one.page s.held)) (sym present-is) s.exceeds;
              frame = s.frame;
              excess = s.excess ∙ ap (λ there. excess_over there (held_target facts.host.regs s.k one.page s.held)) (sym present-is);
            };
          }

  found-stale : IsFoundUnderRoots facts history level one → IsStaleHeldUnder facts history level one
  found-stale f =
      let once : LeadsAtOneTime (makes_of facts) (takes_of facts) facts.end one.page (IsRootAt history facts.host.number facts.under level f.root) level f.root root_bits f.k f.held =
      leads-once (makes_of facts) (takes_of facts) facts.end one.page (IsRootAt history facts.host.number facts.under level f.root) level f.root root_bits f.k f.held f.leads in
      let root : IsRoot level f.root = root-is level f.root once.t once.in_use in
      record {
        page = f.page;
        k = f.k;
        held = f.held;
        leaf = f.leaf;
        may_hold = led_held history facts.host.number facts.under f.k one.page f.held (record { top = level; root = f.root; leads = back f.k f.held f.root root.aligned f.leads });
        asked = f.stale.asked;
        exceeds = subst (λ there. Exceeds there (held_target facts.host.regs f.k one.page f.held)) present-is f.stale.exceeds;
        frame = f.stale.frame;
        excess = f.stale.excess ∙ ap (λ there. excess_over there (held_target facts.host.regs f.k one.page f.held)) present-is;
      }

  pub stale-iff : IsStaleHeldUnder facts history level one ↔ IsFoundUnderRoots facts history level one
  stale-iff = (stale-found, found-stale)
