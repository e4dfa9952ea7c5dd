-- What is kept of a processor meets the conditions of an audit.
use Rattle.std.proofs.Common.{◌≡◌, ℕ, ◌+◌, ◌-◌, ◌*◌, ◌/◌, ◌^◌, ◌<◌, ◌≤◌, Bool, true, false, Option, Some, None, refl, sym, ◌∙◌, subst, arith, pow_mono}
use Rattle.std.specs.Prelude.{◌==◌, nat_le, if◌then◌else◌}
use Rattle.std.proofs.Math.Nat.{mod-lt, mul-mod_left}
use Rattle.std.proofs.lemmas.Nat.{pow_pos}
use Rattle.std.proofs.lemmas.Bool.Decides.{nat_tests}
use Rattle.paging_model.specs.BitRanges.{field}
use Rattle.paging_model.specs.Entries.{IsFrame}
use Rattle.paging_model.specs.Registers.{pcid_of, root_of}
use Rattle.paging_model.specs.declared.registers.Machine.{Machine}
use Rattle.paging_model.specs.declared.registers.Regs.{Regs}
use Rattle.history_model.specs.History.{History, begun, next, last_root, last_root_under, machine, regs, time}
use Rattle.history_laws.proofs.HorizonLaws.{horizon-time}
use Rattle.cache_rules.specs.Hosts.{Keeping}
use Rattle.cache_rules.specs.Standing.{IsHostOf, IsStayAt, stay_in}
use Rattle.cache_rules.specs.declared.stays.Stay.{Stay}
use Rattle.audit_points.specs.Audits.{IsAuditable}

shifted : (n : ℕ) → n < 2 ^ 40 → n * 2 ^ 12 < 2 ^ 52
shifted n h = omega (arith, h)

root-below : (known : Regs) (machine : Machine) → root_of known machine < 2 ^ 52
root-below known machine =
    let width : ℕ = machine.m - 1 + 1 - 12 in
    let narrow : width ≤ 40 = omega (arith, machine.least, machine.most) in
    shifted (field known.cr3 (machine.m - 1) 12) (lt-le (mod-lt (known.cr3 / 2 ^ 12) (pow_pos width)) (pow_mono {i = width} {j = 40} narrow))
  where
    lt-le : {a b c : ℕ} → a < b → b ≤ c → a < c
    lt-le h q = omega (arith, h, q)

pub root-frame : (known : Regs) (machine : Machine) → IsFrame (root_of known machine)
root-frame known machine = record { aligned = mul-mod_left (field known.cr3 (machine.m - 1) 12) 4096; below = root-below known machine }

pub some-root : (a b : ℕ) → Some a ≡ Some b → a ≡ b
some-root a b q = cc

under-frame : (machine : Machine) (known : Option Regs) (c : ℕ) (earlier : Option ℕ) (root : ℕ) → (earlier ≡ Some root → IsFrame root)
    → last_root_under machine known c earlier ≡ Some root → IsFrame root
under-frame machine None c earlier root before h = before h
under-frame machine (Some known) c earlier root before h = by_test (pcid_of known == c) h
  where
    by_test : (b : Bool) → (if b then Some (root_of known machine) else earlier) ≡ Some root → IsFrame root
    by_test true q = subst IsFrame (some-root (root_of known machine) root q) (root-frame known machine)
    by_test false q = before q

last-frame : (history : History) (p c root : ℕ) → last_root history p c ≡ Some root → IsFrame root
last-frame (begun start) p c root h = under-frame start.machine (regs (begun start) p) c None root (λ q. absurd (nothing root q)) h
  where
    nothing : (r : ℕ) → None ≡ Some r → ⊥
    nothing r q = cc
last-frame (next before happened) p c root h = under-frame (machine before) (regs (next before happened) p) c (last_root before p c) root (last-frame before p c root) h

pub some-stay : (a b : Stay) → Some a ≡ Some b → a ≡ b
some-stay a b h = cc

module _ (host : Keeping) (history : History) (is : IsHostOf host history) where
  stay-frame : (t : ℕ) (stay : Stay) → t ≤ time history → stay_in host.past t ≡ Some stay → IsFrame stay.root
  stay-frame t stay within h =
      let at : IsStayAt host history t = is.stays t within in
      let same : at.stay ≡ stay = some-stay at.stay stay (sym at.is_kept ∙ h) in
      subst (λ (one : Stay). IsFrame one.root) same (subst IsFrame (sym at.is_stay.root) (root-frame at.known host.machine))

  any-frame : (t : ℕ) (stay : Stay) → stay_in host.past t ≡ Some stay → IsFrame stay.root
  any-frame t stay h = by_test (nat_le t (time history)) refl
    where
      by_test : (b : Bool) → nat_le t (time history) ≡ b → IsFrame stay.root
      by_test true e = stay-frame t stay (grind (arith, nat_tests, e)) h
      by_test false e = stay-frame (time history) stay (omega arith) (sym (is.last_stays t (grind (arith, nat_tests, e))) ∙ h)

  pub auditable-is : IsAuditable host (time history)
  auditable-is = record {
    ascending = is.ordered.past;
    order = subst (λ n. n ≤ time history) is.horizon_is (horizon-time history host.number);
    roots = any-frame;
    homes = λ c root h. last-frame history host.number c root (sym (is.homes_are c) ∙ h);
  }
