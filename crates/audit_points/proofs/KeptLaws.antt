-- What is made and taken, by what is kept, is what is made and taken in the history.
use Rattle.std.proofs.Common.{◌≡◌, ℕ, ◌+◌, ◌*◌, ◌/◌, ◌%◌, ◌≤◌, ◌&&◌, Bool, true, false, Option, Some, None, refl, sym, ap, ◌∙◌, subst, arith}
use Rattle.std.specs.Prelude.{◌==◌, not, nat_le, if◌then◌else◌, option_and_then, option_map}
use Rattle.std.proofs.lemmas.Bool.Decides.{nat_tests}
use Rattle.paging_model.specs.Memory.{Memory, entry_at}
use Rattle.paging_model.specs.Registers.{nxe, pcid_of, pge, settings_of}
use Rattle.paging_model.specs.Entries as entries
use Rattle.paging_model.specs.Entries.{entry_of}
use Rattle.paging_model.specs.LinearAddress.{span}
use Rattle.paging_model.specs.Walking.{entry_address}
use Rattle.paging_model.specs.declared.entries.Bits.{Bits}
use Rattle.paging_model.specs.declared.registers.Machine.{Machine}
use Rattle.paging_model.specs.declared.registers.Regs.{Regs}
use Rattle.paging_model.specs.declared.registers.Settings.{Settings}
use Rattle.history_model.specs.CachedTranslations.{Held, held_of, cache_key, fill_of}
use Rattle.history_model.specs.History.{History, machine, memory, regs, time}
use Rattle.history_model.specs.Horizons.{horizon}
use Rattle.history_laws.specs.MomentsByTime.{moment_at}
use Rattle.time_sets.specs.Sets.{has_time}
use Rattle.audit_laws.specs.MadeAtTimes.{entry_taken_at, fill_in, made_at}
use Rattle.cache_rules.specs.declared.stays.Stay.{Stay}
use Rattle.cache_rules.specs.Standing.{IsStay, IsStayAt, stay_in}
use Rattle.stay_times.specs.Periods.{is_wanted, is_wanted_if}
use Rattle.version_store.specs.Changes.{value_at}
use Rattle.version_store.proofs.HistoryLaws.{unknown-past}
use Rattle.stale_audit.specs.Facts.{Facts, made_in_pcid, made_of_value, made_with, makes_of, settings_with, takes_of}
use Rattle.audit_points.specs.StandingFacts.{FactsStandFor, is_in_pcid, with_nxe_in}

-- LA57 has no part in what an entry means
entry-same : (level value : ℕ) (some other : Settings) → some.m ≡ other.m → some.big ≡ other.big → some.nxe ≡ other.nxe → entry_of level some value ≡ entry_of level other value
unfolding entry_of entries.is_reserved
entry-same level value some other m big nxe = rw (m, big, nxe) refl

-- what an entry's value makes
made-value : (mem : Memory) (mach : Machine) (known : Regs) (level x table : ℕ) (bits : Bits) → fill_of mem mach known level x table bits
    ≡ option_and_then (λ read. held_of (pge known) bits read) (option_map (λ value. entry_of level (settings_of known mach) value) (entry_at mem (entry_address level x table)))
unfolding fill_of
made-value mem mach known level x table bits = refl

pub taken-same : (facts : Facts) (history : History) (level x t : ℕ) (held : Held) → FactsStandFor facts history → takes_of facts level x held t ≡ entry_taken_at history facts.host.number facts.under level x held t
taken-same facts history level x t held stand = stand.host.removals_are (cache_key facts.under level x held) stand.pcid t

module _ (facts : Facts) (history : History) (level table x t : ℕ) (bits : Bits) (stand : FactsStandFor facts history) (aligned : table % 4096 ≡ 0) where
  place : entry_address level x table % 8 ≡ 0
  place = eight table (x / span level % 512) aligned
    where
      eight : (a b : ℕ) → a % 4096 ≡ 0 → (a + 8 * b) % 8 ≡ 0
      eight a b h = omega (arith, h)

  -- in the PCID, with these registers
  made-then : (known : Regs) (flag : Bool) → horizon history facts.host.number ≤ t → t ≤ time history → regs (moment_at history t) facts.host.number ≡ Some known → nxe known ≡ flag
      → made_with facts flag level (entry_address level x table) bits t ≡ fill_of (memory (moment_at history t)) (machine history) known level x table bits
  made-then known flag low high is_known nxe_is = by_read (entry_at (memory history) (entry_address level x table)) refl
    where
      by_read : (read : Option ℕ) → entry_at (memory history) (entry_address level x table) ≡ read → made_with facts flag level (entry_address level x table) bits t ≡ fill_of (memory (moment_at history t)) (machine history) known level x table bits
      by_read None e =
          ap (made_of_value facts flag level (entry_address level x table) bits t) (ap (λ m. entry_at m (entry_address level x table)) stand.memory_is ∙ e)
          ∙ (sym (ap (λ o. option_and_then (λ read. held_of (pge known) bits read) (option_map (λ value. entry_of level (settings_of known (machine history)) value) o)) (unknown-past history (entry_address level x table) t e))
          ∙ sym (made-value (memory (moment_at history t)) (machine history) known level x table bits))
      by_read (Some present) e =
          ap (made_of_value facts flag level (entry_address level x table) bits t) (ap (λ m. entry_at m (entry_address level x table)) stand.memory_is ∙ e)
          ∙ (ap (λ g. held_of g bits (entry_of level (settings_with flag facts.settings) (value_at facts.kept (entry_address level x table) present t))) (sym (stand.host.pge_is t known (subst (λ n. n ≤ t) stand.host.horizon_is low) high is_known))
          ∙ (ap (λ read. held_of (pge known) bits read) (entry-same level (value_at facts.kept (entry_address level x table) present t) (settings_with flag facts.settings) (settings_of known (machine history)) (ap (λ (s : Settings). s.m) stand.settings_is) (ap (λ (s : Settings). s.big) stand.settings_is) (sym nxe_is))
          ∙ (sym (ap (λ o. option_and_then (λ read. held_of (pge known) bits read) (option_map (λ value. entry_of level (settings_of known (machine history)) value) o)) (stand.kept.values (entry_address level x table) present t place (subst (λ n. n ≤ t) stand.host.horizon_is low) high e))
          ∙ sym (made-value (memory (moment_at history t)) (machine history) known level x table bits))))

  -- whether the stay is asked for
  wanted-is : (stay : Stay) (flag : Bool) (known : Regs) → IsStay facts.host.machine known stay → is_wanted (with_nxe_in facts.under flag) stay ≡ (pcid_of known == facts.under && (if flag then nxe known else not (nxe known)))
  wanted-is stay flag known is = rw (is.pcid, is.nxe_is) (and_true (pcid_of known == facts.under) (if flag then nxe known else not (nxe known)))
    where
      and_true : (a b : Bool) → ((a && b) && true) ≡ (a && b)
      and_true true true = refl
      and_true true false = refl
      and_true false b = refl

  by_class : (known : Regs) (low_test high_test own flag : Bool) → nat_le (horizon history facts.host.number) t ≡ low_test → nat_le t (time history) ≡ high_test → (pcid_of known == facts.under) ≡ own → nxe known ≡ flag
      → (low_test ≡ true → high_test ≡ true → regs (moment_at history t) facts.host.number ≡ Some known)
      → has_time facts.nxe_clear t ≡ (low_test && (high_test && (own && not flag))) → has_time facts.nxe_set t ≡ (low_test && (high_test && (own && flag)))
      → made_in_pcid facts level (entry_address level x table) bits t ≡ (if low_test && high_test then fill_in facts.under (memory (moment_at history t)) (machine history) (regs (moment_at history t) facts.host.number) level x table bits else None)
  by_class known false h own flag e f g n is p m = rw (p, m) refl
  by_class known true false own flag e f g n is p m = rw (p, m) refl
  by_class known true true false flag e f g n is p m =
      let k = is refl refl in
      rw (p, m, k, g) refl
  by_class known true true true false e f g n is p m =
      let k = is refl refl in
      let low : horizon history facts.host.number ≤ t = grind (arith, nat_tests, e) in
      let high : t ≤ time history = grind (arith, nat_tests, f) in
      rw (p, k, g) (made-then known false low high k n)
  by_class known true true true true e f g n is p m =
      let k = is refl refl in
      let low : horizon history facts.host.number ≤ t = grind (arith, nat_tests, e) in
      let high : t ≤ time history = grind (arith, nat_tests, f) in
      rw (p, m, k, g) (made-then known true low high k n)

  pub made-same : makes_of facts level table bits x t ≡ made_at history facts.host.number facts.under level table bits x t
  made-same = by_time (nat_le t (time history)) refl
    where
      then-is : (flag : Bool) → is_in_pcid facts flag t ≡ (nat_le (horizon history facts.host.number) t && (nat_le t (time history) && is_wanted_if (with_nxe_in facts.under flag) (stay_in facts.host.past t)))
      then-is flag = rw (stand.host.horizon_is, stand.end_is) refl

      by_time : (b : Bool) → nat_le t (time history) ≡ b → makes_of facts level table bits x t ≡ made_at history facts.host.number facts.under level table bits x t
      by_time true e =
          let high : t ≤ time history = grind (arith, nat_tests, e) in
          let at : IsStayAt facts.host history t = stand.host.stays t high in
          let want : (flag : Bool) → is_in_pcid facts flag t ≡ (nat_le (horizon history facts.host.number) t && (nat_le t (time history) && (pcid_of at.known == facts.under && (if flag then nxe at.known else not (nxe at.known))))) =
          λ flag. then-is flag ∙ ap (λ w. nat_le (horizon history facts.host.number) t && (nat_le t (time history) && w)) (ap (is_wanted_if (with_nxe_in facts.under flag)) at.is_kept ∙ wanted-is at.stay flag at.known at.is_stay) in
          by_class at.known (nat_le (horizon history facts.host.number) t) (nat_le t (time history)) (pcid_of at.known == facts.under) (nxe at.known) refl refl refl refl (λ u v. at.is_known) (stand.clear_is t ∙ want false) (stand.set_is t ∙ want true)
      by_time false e =
          let no_flag : (flag : Bool) → is_in_pcid facts flag t ≡ false = λ flag. then-is flag ∙ (ap (λ b. nat_le (horizon history facts.host.number) t && (b && is_wanted_if (with_nxe_in facts.under flag) (stay_in facts.host.past t))) e ∙ and_false (nat_le (horizon history facts.host.number) t)) in
          let p : has_time facts.nxe_clear t ≡ false = stand.clear_is t ∙ no_flag false in
          let m : has_time facts.nxe_set t ≡ false = stand.set_is t ∙ no_flag true in
          let n : (nat_le (horizon history facts.host.number) t && nat_le t (time history)) ≡ false = ap (λ b. nat_le (horizon history facts.host.number) t && b) e ∙ and_false (nat_le (horizon history facts.host.number) t) in
          rw (p, m, n) refl
        where
          and_false : (a : Bool) → (a && false) ≡ false
          and_false true = refl
          and_false false = refl
