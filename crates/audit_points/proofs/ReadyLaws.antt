-- What stands for a history is ready for the descent.
use Rattle.std.proofs.Common.{◌≡◌, ℕ, ◌≤◌, ◌&&◌, Bool, true, false, Option, Some, None, refl, sym, ◌∙◌, subst, arith}
use Rattle.std.specs.Prelude.{◌==◌, not, nat_le, if◌then◌else◌}
use Rattle.std.proofs.lemmas.Bool.Decides.{nat_tests}
use Rattle.history_model.specs.History.{History}
use Rattle.history_model.specs.Horizons.{horizon}
use Rattle.history_laws.proofs.HorizonLaws.{horizon-time}
use Rattle.cache_rules.specs.declared.stays.Stay.{Stay}
use Rattle.cache_rules.specs.Standing.{stay_in}
use Rattle.stay_times.specs.Periods.{is_wanted_if}
use Rattle.time_sets.specs.Sets.{has_time}
use Rattle.stale_audit.specs.Facts.{Facts, AreTimely}
use Rattle.audit_points.specs.StandingFacts.{FactsStandFor, is_in_pcid, with_nxe_in}

three : (a b c : Bool) → (a && (b && c)) ≡ true → (a ≡ true) × (b ≡ true) × (c ≡ true)
three true true true h = (refl, refl, refl)
three true true false h = absurd (cc)
three true false c h = absurd (cc)
three false b c h = absurd (cc)

and_nil : (a b c : Bool) → c ≡ false → (a && (b && c)) ≡ false
and_nil true true c h = h
and_nil true false c h = refl
and_nil false b c h = refl

other-flag : (c : ℕ) (o : Option Stay) → is_wanted_if (with_nxe_in c false) o ≡ true → is_wanted_if (with_nxe_in c true) o ≡ false
other-flag c None h = absurd (cc)
other-flag c (Some stay) h = by_test (stay.pcid == c) stay.nxe h
  where
    by_test : (a b : Bool) → ((a && (if false then b else not b)) && true) ≡ true → ((a && (if true then b else not b)) && true) ≡ false
    by_test true true q = absurd (cc)
    by_test true false q = refl
    by_test false b q = refl

module _ (facts : Facts) where
  parts : (flag : Bool) (t : ℕ) → is_in_pcid facts flag t ≡ true → (facts.host.horizon ≤ t) × (t ≤ facts.end)
  parts flag t h =
      let all = three (nat_le facts.host.horizon t) (nat_le t facts.end) (is_wanted_if (with_nxe_in facts.under flag) (stay_in facts.host.past t)) h in
      let a = all.0 in let b = all.1 in (grind (arith, nat_tests, a), grind (arith, nat_tests, b))

  pub timely-is : facts.host.horizon ≤ facts.end → ((t : ℕ) → has_time facts.nxe_clear t ≡ is_in_pcid facts false t) → ((t : ℕ) → has_time facts.nxe_set t ≡ is_in_pcid facts true t) → AreTimely facts
  timely-is order clear_is set_is = record {
    order = order;
    clear_since = λ t h. (parts false t (sym (clear_is t) ∙ h)).0;
    clear_until = λ t h. (parts false t (sym (clear_is t) ∙ h)).1;
    set_since = λ t h. (parts true t (sym (set_is t) ∙ h)).0;
    set_until = λ t h. (parts true t (sym (set_is t) ∙ h)).1;
    apart = λ t h.
        let all = three (nat_le facts.host.horizon t) (nat_le t facts.end) (is_wanted_if (with_nxe_in facts.under false) (stay_in facts.host.past t)) (sym (clear_is t) ∙ h) in
        set_is t ∙ and_nil (nat_le facts.host.horizon t) (nat_le t facts.end) (is_wanted_if (with_nxe_in facts.under true) (stay_in facts.host.past t)) (other-flag facts.under (stay_in facts.host.past t) all.2);
  }

pub ready-is : (facts : Facts) (history : History) → FactsStandFor facts history → AreTimely facts
ready-is facts history stand =
    timely-is facts
    (subst (λ n. n ≤ facts.end) stand.host.horizon_is (subst (λ n. horizon history facts.host.number ≤ n) (sym stand.end_is) (horizon-time history facts.host.number)))
    stand.clear_is stand.set_is
