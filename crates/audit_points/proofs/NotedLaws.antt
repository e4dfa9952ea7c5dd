-- What is kept of a processor meets the conditions of an audit from the beginning on, and after each event.
use Rattle.std.proofs.Common.{◌≡◌, ℕ, ◌<◌, ◌≤◌, Bool, true, false, List, [], Option, Some, None, refl, sym, ◌∙◌, subst, arith}
use Rattle.std.specs.Prelude.{◌==◌, nat_le, if◌then◌else◌}
use Rattle.std.specs.List.{All}
use Rattle.std.proofs.lemmas.Bool.Decides.{nat_tests}
use Rattle.paging_model.specs.Entries.{IsFrame}
use Rattle.paging_model.specs.declared.registers.Machine.{Machine}
use Rattle.paging_model.specs.declared.registers.Regs.{Regs}
use Rattle.history_model.specs.Invalidations.{loses_all}
use Rattle.history_model.specs.declared.events.Event.{Event}
use Rattle.cache_rules.specs.Hosts.{Keeping, IsBefore, IsNoted, host_after, is_moved, new_host, root_in, stay_from, with_home_of, with_stay}
use Rattle.cache_rules.specs.Removals.{AreAscending}
use Rattle.cache_rules.specs.Standing.{stay_in}
use Rattle.cache_rules.specs.declared.removals.Removal.{Removal}
use Rattle.cache_rules.specs.declared.stays.Stay.{Stay}
use Rattle.cache_rules.proofs.KeptLists.{root_in-with, stay_in-early, stay_in-late}
use Rattle.cache_rules.proofs.Orders.{ascending-last}
use Rattle.stay_times.specs.Periods.{starts}
use Rattle.audit_points.specs.Audits.{IsAuditable}
use Rattle.audit_points.proofs.AuditableLaws.{root-frame, some-root, some-stay}

starts-with : (moved : Bool) (stay : Stay) (list : List Stay) (now : ℕ) → stay.from ≡ now → AreAscending 0 (starts list) → All (λ u. u < now) (starts list)
    → AreAscending 0 (starts (with_stay (if moved then Some stay else None) list))
starts-with false stay list now is ascending below = ascending
starts-with true stay list now is ascending below = ascending-last (λ (one : Stay). one.from) 0 now list stay ascending below (omega arith) is

roots-with : (moved : Bool) (stay : Stay) (list : List Stay) → IsFrame stay.root → ((t : ℕ) (one : Stay) → stay_in list t ≡ Some one → IsFrame one.root)
    → (t : ℕ) (one : Stay) → stay_in (with_stay (if moved then Some stay else None) list) t ≡ Some one → IsFrame one.root
roots-with false stay list frame frames t one h = frames t one h
roots-with true stay list frame frames t one h = by_test (nat_le stay.from t) refl
  where
    by_test : (b : Bool) → nat_le stay.from t ≡ b → IsFrame one.root
    by_test true e = subst (λ (x : Stay). IsFrame x.root) (some-stay stay one (sym (stay_in-late list stay t (grind (arith, nat_tests, e))) ∙ h)) frame
    by_test false e = frames t one (sym (stay_in-early true stay list t (grind (arith, nat_tests, e))) ∙ h)

homes-with : (moved : Bool) (stay : Stay) (homes : List (ℕ × ℕ)) → IsFrame stay.root → ((c root : ℕ) → root_in homes c ≡ Some root → IsFrame root)
    → (c root : ℕ) → root_in (with_home_of (if moved then Some stay else None) homes) c ≡ Some root → IsFrame root
homes-with false stay homes frame frames c root h = frames c root h
homes-with true stay homes frame frames c root h = by_test (stay.pcid == c) (sym (root_in-with stay.pcid stay.root homes c) ∙ h)
  where
    by_test : (b : Bool) → (if b then Some stay.root else root_in homes c) ≡ Some root → IsFrame root
    by_test true q = subst IsFrame (some-root stay.root root q) frame
    by_test false q = frames c root q

horizon-with : (b : Bool) (now horizon : ℕ) → horizon ≤ now → (if b then now else horizon) ≤ now
horizon-with true now horizon h = omega arith
horizon-with false now horizon h = h

noted-auditable : (old : Keeping) (earlier now : ℕ) (happened : Event) (removal : Option Removal) (after : Regs) → IsAuditable old earlier → earlier ≤ now → IsBefore old now
    → IsAuditable (host_after old now happened removal after) now
noted-auditable old earlier now happened removal after is later before =
    let stay = stay_from now old.machine after in
    let moved = is_moved old.machine old.regs after in
    let order = is.order in
    record {
      ascending = starts-with moved stay old.past now refl is.ascending before.past;
      order = horizon-with (loses_all happened old.number old.regs) now old.horizon (omega (arith, order, later));
      roots = roots-with moved stay old.past (root-frame after old.machine) is.roots;
      homes = homes-with moved stay old.homes (root-frame after old.machine) is.homes;
    }

pub noted-is : (old new : Keeping) (earlier now : ℕ) (happened : Event) (after : Regs) → IsAuditable old earlier → earlier ≤ now → IsBefore old now
    → IsNoted old now happened after new → IsAuditable new now
noted-is old new earlier now happened after is later before noted =
    subst (λ (host : Keeping). IsAuditable host now) (sym noted.is) (noted-auditable old earlier now happened noted.removal after is later before)

pub later-is : (host : Keeping) (earlier now : ℕ) → IsAuditable host earlier → earlier ≤ now → IsAuditable host now
later-is host earlier now is later =
    let order = is.order in
    record { ascending = is.ascending; order = omega (arith, order, later); roots = is.roots; homes = is.homes }

pub new-is : (number : ℕ) (known : Regs) (machine : Machine) → IsAuditable (new_host number known machine) 0
new-is number known machine = record {
  ascending = (omega arith, tt);
  order = omega arith;
  roots = roots-with true (stay_from 0 machine known) [] (root-frame known machine) (λ t one h. absurd (no-stay one h));
  homes = homes-with true (stay_from 0 machine known) [] (root-frame known machine) (λ c root h. absurd (no-root root h));
}
  where
    no-stay : (one : Stay) → None ≡ Some one → ⊥
    no-stay one h = absurd (cc)

    no-root : (root : ℕ) → None ≡ Some root → ⊥
    no-root root h = absurd (cc)
