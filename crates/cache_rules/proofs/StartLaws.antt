-- What is kept of a processor stands for a beginning, and after events of others.
use Rattle.std.proofs.Common.{◌≡◌, ℕ, ◌+◌, ◌<◌, ◌&&◌, Bool, true, false, [], ◌∷◌, Some, None, refl, sym, ap, ◌∙◌, arith}
use Rattle.std.specs.Prelude.{◌==◌, nat_le, option_map, if◌then◌else◌}
use Rattle.std.proofs.lemmas.List.Elements.{All-cons}
use Rattle.std.proofs.lemmas.Bool.Decides.{nat_tests}
use Rattle.paging_model.specs.BitRanges.{differs}
use Rattle.paging_model.specs.Registers.{la57, nxe, pcid_of, pge, root_of}
use Rattle.paging_model.specs.declared.registers.Machine.{Machine}
use Rattle.paging_model.specs.declared.registers.Regs.{Regs}
use Rattle.history_model.specs.History.{History, Start, begun, next, regs, time, last_root_under, with_pcid}
use Rattle.history_model.specs.Invalidations.{loses_all, change_empties}
use Rattle.history_model.specs.declared.events.Event.{Event}
use Rattle.history_model.specs.declared.events.Event.TheVariants as event
use Rattle.history_laws.specs.Executing.{is_by}
use Rattle.history_laws.proofs.EventLaws.{kills-others}
use Rattle.history_laws.proofs.WalkLaws.{some-same}
use Rattle.cache_rules.specs.declared.stays.Stay.{Stay}
use Rattle.cache_rules.specs.Hosts.{Keeping, IsNoted, is_moved, new_host, stay_from, with_home_of, with_stay}
use Rattle.cache_rules.specs.Standing.{IsHostOf, IsStayAt, last_stay, stay_in}
use Rattle.cache_rules.proofs.StandingLaws.{noted-stands}

first-stay : (stay : Stay) (t : ℕ) → stay.from ≡ 0 → stay_in (stay ∷ []) t ≡ Some stay
first-stay stay t h =
    let test : nat_le stay.from t ≡ true = grind (arith, nat_tests, h) in
    ap (λ (b : Bool). last_stay (if b then Some stay else None) None) test

new-stays : (start : Start) (number : ℕ) (known : Regs) (t : ℕ) → regs (begun start) number ≡ Some known → IsStayAt (new_host number known start.machine) (begun start) t
new-stays start number known t is_known = record {
  known = known;
  stay = stay_from 0 start.machine known;
  is_known = is_known;
  is_kept = first-stay (stay_from 0 start.machine known) t refl;
  is_stay = record { pcid = refl; root = refl; nxe_is = refl; pge_is = refl };
}

pub new-stands : (start : Start) (number : ℕ) (known : Regs) → regs (begun start) number ≡ Some known → IsHostOf (new_host number known start.machine) (begun start)
new-stands start number known is_known = record {
  is_known = is_known;
  machine_is = refl;
  horizon_is = refl;
  ordered = record { removals = tt; past = (omega arith, tt); homes = (omega arith, tt) };
  before = record {
    removals = λ k d within. absurd (omega arith);
    past = All-cons (λ u. u < 1) 0 [] (omega arith) (λ k d within. absurd (omega arith));
  };
  removals_are = λ key short t. refl;
  stays = λ t h. new-stays start number known t is_known;
  last_stays = λ t h. first-stay (stay_from 0 start.machine known) t refl ∙ sym (first-stay (stay_from 0 start.machine known) 0 refl);
  homes_are = λ c. sym (ap (λ one. last_root_under start.machine one c None) is_known);
  pcids_are = sym (ap (λ one. with_pcid (option_map pcid_of one) []) is_known);
  pge_is = λ t one since h at. ap pge (some-same one known (sym at ∙ is_known));
  la57_is = λ t one h at. ap la57 (some-same one known (sym at ∙ is_known));
}

pub other-stands : (host : Keeping) (start other : Start) → IsHostOf host (begun start) → regs (begun other) host.number ≡ Some host.regs → other.machine ≡ start.machine → IsHostOf host (begun other)
other-stands host start other stands is_known same = record {
  is_known = is_known;
  machine_is = same ∙ stands.machine_is;
  horizon_is = stands.horizon_is;
  ordered = stands.ordered;
  before = stands.before;
  removals_are = stands.removals_are;
  stays = λ t h. let at : IsStayAt host (begun start) t = stands.stays t h in record {
    known = at.known;
    stay = at.stay;
    is_known = known-same ∙ at.is_known;
    is_kept = at.is_kept;
    is_stay = at.is_stay;
  };
  last_stays = stands.last_stays;
  homes_are = λ c. stands.homes_are c ∙ (ap (λ one. last_root_under start.machine one c None) (sym known-same) ∙ ap (λ m. last_root_under m (regs (begun other) host.number) c None) (sym same));
  pcids_are = stands.pcids_are ∙ ap (λ one. with_pcid (option_map pcid_of one) []) (sym known-same);
  pge_is = λ t one since h at. ap pge (some-same one host.regs (sym at ∙ is_known));
  la57_is = λ t one h at. ap la57 (some-same one host.regs (sym at ∙ is_known));
}
  where
    known-same : regs (begun other) host.number ≡ regs (begun start) host.number
    known-same = is_known ∙ sym stands.is_known

loses-others : (happened : Event) (p : ℕ) (known : Regs) → is_by p happened ≡ false → loses_all happened p known ≡ false
loses-others (event.Machine m) p known h = refl
loses-others (event.Cpu cpu given) p known h = refl
loses-others (event.Write at bytes) p known h = refl
loses-others (event.Set cpu change) p known h = ap (λ own. own && change_empties change known) h
loses-others (event.Invlpg cpu address) p known h = refl
loses-others (event.Invpcid cpu kind pcid address) p known h = ap (λ own. own && kind == 2) h
loses-others (event.Ask cpu access pointer) p known h = refl
loses-others (event.List cpu) p known h = refl
loses-others (event.Point all) p known h = refl

equal-self : (n : ℕ) → (n == n) ≡ true
equal-self n = grind (arith, nat_tests)

differs-self : (b : Bool) → differs b b ≡ false
differs-self true = refl
differs-self false = refl

moved-self : (m : Machine) (known : Regs) → is_moved m known known ≡ false
moved-self m known = rw (equal-self (pcid_of known), equal-self (root_of known m), differs-self (nxe known), differs-self (pge known)) refl

-- an event of another processor notes nothing
others-noted : (host : Keeping) (now : ℕ) (happened : Event) → is_by host.number happened ≡ false → IsNoted host now happened host.regs host
others-noted host now happened other = record {
  removal = None;
  removes = λ key short. sym (kills-others happened host.number host.regs key other);
  is = sym (ap same (loses-others happened host.number host.regs other) ∙ ap moved (moved-self host.machine host.regs));
}
  where
    same : Bool → Keeping
    same lost = record host {
      horizon = if lost then now else host.horizon;
      past = with_stay (if is_moved host.machine host.regs host.regs then Some (stay_from now host.machine host.regs) else None) host.past;
      homes = with_home_of (if is_moved host.machine host.regs host.regs then Some (stay_from now host.machine host.regs) else None) host.homes;
    }

    moved : Bool → Keeping
    moved moves = record host {
      past = with_stay (if moves then Some (stay_from now host.machine host.regs) else None) host.past;
      homes = with_home_of (if moves then Some (stay_from now host.machine host.regs) else None) host.homes;
    }

pub others-stand : (host : Keeping) (history : History) (happened : Event) → IsHostOf host history → is_by host.number happened ≡ false → regs (next history happened) host.number ≡ Some host.regs → IsHostOf host (next history happened)
others-stand host history happened stands other is_known =
    noted-stands host host history happened host.regs stands (others-noted host (time history + 1) happened other) is_known refl
