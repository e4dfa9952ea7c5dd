-- What was made at a time was made by known registers, from the horizon on.
use Rattle.std.proofs.Common.{◌≡◌, ℕ, ◌&&◌, Bool, true, false, Option, Some, None, refl, ap, ◌∙◌, arith}
use Rattle.std.specs.Prelude.{◌==◌, nat_le, if◌then◌else◌}
use Rattle.std.proofs.lemmas.Bool.Decides.{nat_tests}
use Rattle.paging_model.specs.Memory.{Memory}
use Rattle.paging_model.specs.Registers.{pcid_of}
use Rattle.paging_model.specs.declared.entries.Bits.{Bits}
use Rattle.paging_model.specs.declared.registers.Machine.{Machine}
use Rattle.paging_model.specs.declared.registers.Regs.{Regs}
use Rattle.history_model.specs.History.{History, memory, machine, regs, time}
use Rattle.history_model.specs.Horizons.{horizon}
use Rattle.history_model.specs.CachedTranslations.{Held, fill_of}
use Rattle.history_laws.specs.MomentsByTime.{moment_at}
use Rattle.audit_laws.specs.MadeAtTimes.{IsInPcid, fill_in, made_at}

-- what registers in the PCID made of an entry
record IsFilled (c : ℕ) (memory : Memory) (machine : Machine) (now : Option Regs) (level x table : ℕ) (above : Bits) (held : Held) : Type 0 where
  pub known : Regs
  pub is_known : now ≡ Some known
  pub current : c ≡ pcid_of known
  pub is_made : fill_of memory machine known level x table above ≡ Some held

fill_in-is : (c : ℕ) (memory : Memory) (machine : Machine) (now : Option Regs) (level x table : ℕ) (above : Bits) (held : Held)
    → fill_in c memory machine now level x table above ≡ Some held → IsFilled c memory machine now level x table above held
fill_in-is c memory machine None level x table above held h = absurd (cc)
fill_in-is c memory machine (Some known) level x table above held h = by_test (pcid_of known == c) refl h
  where
    by_test : (b : Bool) → (pcid_of known == c) ≡ b → (if b then fill_of memory machine known level x table above else None) ≡ Some held
        → IsFilled c memory machine (Some known) level x table above held
    by_test true e q = record { known = known; is_known = refl; current = grind (arith, nat_tests, e); is_made = q }
    by_test false e q = absurd (cc)

fill_in-of : (c : ℕ) (memory : Memory) (machine : Machine) (known : Regs) (level x table : ℕ) (above : Bits) (held : Held) → c ≡ pcid_of known
    → fill_of memory machine known level x table above ≡ Some held → fill_in c memory machine (Some known) level x table above ≡ Some held
fill_in-of c memory machine known level x table above held current h =
    let test : (pcid_of known == c) ≡ true = grind (arith, nat_tests, current) in
    ap (λ (b : Bool). if b then fill_of memory machine known level x table above else None) test ∙ h

-- processor p was in PCID c at a time from its horizon on, and made this then
pub record IsMadeAt (history : History) (p c level x table : ℕ) (above : Bits) (t : ℕ) (held : Held) : Type 0 where
  pub known : Regs
  pub is_in : IsInPcid history p c t known
  pub is_made : fill_of (memory (moment_at history t)) (machine history) known level x table above ≡ Some held

module _ (history : History) (p c level x table : ℕ) (above : Bits) (t : ℕ) (held : Held) where
  pub made_at-is : made_at history p c level table above x t ≡ Some held → IsMadeAt history p c level x table above t held
  made_at-is h = by_test (nat_le (horizon history p) t && nat_le t (time history)) refl h
    where
      by_test : (b : Bool) → (nat_le (horizon history p) t && nat_le t (time history)) ≡ b
          → (if b then fill_in c (memory (moment_at history t)) (machine history) (regs (moment_at history t) p) level x table above else None) ≡ Some held
          → IsMadeAt history p c level x table above t held
      by_test true e q =
          let m : IsFilled c (memory (moment_at history t)) (machine history) (regs (moment_at history t) p) level x table above held = fill_in-is c _ _ _ level x table above held q in
          record {
            known = m.known;
            is_in = record { recent = grind (arith, nat_tests, e); within = grind (arith, nat_tests, e); is_known = m.is_known; current = m.current };
            is_made = m.is_made;
          }
      by_test false e q = absurd (cc)

  pub made_at-of : IsMadeAt history p c level x table above t held → made_at history p c level table above x t ≡ Some held
  made_at-of m =
      let recent = m.is_in.recent in
      let within = m.is_in.within in
      let test : (nat_le (horizon history p) t && nat_le t (time history)) ≡ true = grind (arith, nat_tests, recent, within) in
      ap (λ (b : Bool). if b then fill_in c (memory (moment_at history t)) (machine history) (regs (moment_at history t) p) level x table above else None) test
      ∙ (ap (λ now. fill_in c (memory (moment_at history t)) (machine history) now level x table above) m.is_in.is_known
      ∙ fill_in-of c _ _ m.known level x table above held m.is_in.current m.is_made)
