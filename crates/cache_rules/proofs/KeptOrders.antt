-- What is kept stays in order, event after event.
use Rattle.std.proofs.Common.{◌≡◌, ℕ, ◌+◌, ◌<◌, Bool, true, false, List, [], ◌∷◌, ◌++◌, Option, Some, None, map, refl, sym, subst, arith}
use Rattle.std.specs.List.{All}
use Rattle.std.proofs.lemmas.List.Elements.{All-cons, All-tail}
use Rattle.std.specs.Prelude.{if◌then◌else◌}
use Rattle.paging_model.specs.declared.registers.Regs.{Regs}
use Rattle.history_model.specs.declared.events.Event.{Event}
use Rattle.cache_rules.specs.declared.removals.Removal.{Removal}
use Rattle.cache_rules.specs.declared.removals.Removed.{Removed}
use Rattle.cache_rules.specs.declared.stays.Stay.{Stay}
use Rattle.cache_rules.specs.Hosts.{Keeping, IsBefore, IsOrdered, host_after, is_moved, new_stay, stay_from, with_home_of, with_removal, with_stay}
use Rattle.cache_rules.specs.Removals.{AreAscending}
use Rattle.cache_rules.proofs.Orders.{ascending-last}
use Rattle.cache_rules.proofs.Roots.{pcids, with_home-ascends}

abbrev times : List Removed → List ℕ
times removals = map (λ (one : Removed). one.time) removals

abbrev begins : List Stay → List ℕ
begins past = map (λ (one : Stay). one.from) past

removals-ordered : (removal : Option Removal) (list : List Removed) (now : ℕ) → AreAscending 0 (times list) → All (λ u. u < now) (times list)
    → AreAscending 0 (times (with_removal now removal list))
removals-ordered None list now ascending below = ascending
removals-ordered (Some one) list now ascending below =
    ascending-last (λ (one : Removed). one.time) 0 now list (record { time = now; removal = one }) ascending below (omega arith) refl

stays-ordered : (moved : Bool) (list : List Stay) (now : ℕ) (stay : Stay) → stay.from ≡ now → AreAscending 0 (begins list) → All (λ u. u < now) (begins list)
    → AreAscending 0 (begins (with_stay (if moved then Some stay else None) list))
stays-ordered false list now stay is ascending below = ascending
stays-ordered true list now stay is ascending below = ascending-last (λ (one : Stay). one.from) 0 now list stay ascending below (omega arith) is

homes-ordered : (stay : Option Stay) (list : List (ℕ × ℕ)) → AreAscending 0 (pcids list) → AreAscending 0 (pcids (with_home_of stay list))
homes-ordered None list ascending = ascending
homes-ordered (Some stay) list ascending = with_home-ascends 0 stay.pcid stay.root list ascending (omega arith)

pub ordered-after : (old : Keeping) (now : ℕ) (happened : Event) (removal : Option Removal) (after : Regs) → IsOrdered old → IsBefore old now
    → IsOrdered (host_after old now happened removal after)
ordered-after old now happened removal after ordered before = record {
  removals = removals-ordered removal old.removals now ordered.removals before.removals;
  past = stays-ordered (is_moved old.machine old.regs after) old.past now (stay_from now old.machine after) refl ordered.past before.past;
  homes = homes-ordered (new_stay now old.machine old.regs after) old.homes ordered.homes;
}

-- the same of lists that are such
pub ordered-as : (old new : Keeping) (now : ℕ) (happened : Event) (removal : Option Removal) (after : Regs) → IsOrdered old → IsBefore old now
    → new.removals ≡ with_removal now removal old.removals → new.past ≡ with_stay (new_stay now old.machine old.regs after) old.past
    → new.homes ≡ with_home_of (new_stay now old.machine old.regs after) old.homes → IsOrdered new
ordered-as old new now happened removal after ordered before removals past homes =
    let is : IsOrdered (host_after old now happened removal after) = ordered-after old now happened removal after ordered before in
    record {
      removals = subst (λ list. AreAscending 0 (times list)) (sym removals) is.removals;
      past = subst (λ list. AreAscending 0 (begins list)) (sym past) is.past;
      homes = subst (λ list. AreAscending 0 (pcids list)) (sym homes) is.homes;
    }

-- one number more at the end
below-last : {X : Type 0} (n : X → ℕ) (list : List X) (y : X) (now : ℕ) → n y ≡ now → All (λ u. u < now) (map n list) → All (λ u. u < now + 1) (map n (list ++ y ∷ []))
below-last n [] y now is below = All-cons (λ u. u < now + 1) (n y) [] (omega (arith, is)) (λ k d within. absurd (omega arith))
below-last n (x ∷ list) y now is below =
    let first : n x < now = below 0 0 (omega arith) in
    All-cons (λ u. u < now + 1) (n x) (map n (list ++ y ∷ [])) (omega arith) (below-last n list y now is (All-tail (λ u. u < now) (n x) (map n list) below))

below-more : (list : List ℕ) (now : ℕ) → All (λ u. u < now) list → All (λ u. u < now + 1) list
below-more list now below = λ k d within. (let less = below k d within in omega arith)

removals-before : (removal : Option Removal) (list : List Removed) (now : ℕ) → All (λ u. u < now) (times list) → All (λ u. u < now + 1) (times (with_removal now removal list))
removals-before None list now below = below-more (times list) now below
removals-before (Some one) list now below = below-last (λ (one : Removed). one.time) list (record { time = now; removal = one }) now refl below

stays-before : (moved : Bool) (list : List Stay) (now : ℕ) (stay : Stay) → stay.from ≡ now → All (λ u. u < now) (begins list)
    → All (λ u. u < now + 1) (begins (with_stay (if moved then Some stay else None) list))
stays-before false list now stay is below = below-more (begins list) now below
stays-before true list now stay is below = below-last (λ (one : Stay). one.from) list stay now is below

pub before-after : (old : Keeping) (now : ℕ) (happened : Event) (removal : Option Removal) (after : Regs) → IsBefore old now
    → IsBefore (host_after old now happened removal after) (now + 1)
before-after old now happened removal after before = record {
  removals = removals-before removal old.removals now before.removals;
  past = stays-before (is_moved old.machine old.regs after) old.past now (stay_from now old.machine after) refl before.past;
}

-- the same of lists that are such
pub before-as : (old new : Keeping) (now : ℕ) (happened : Event) (removal : Option Removal) (after : Regs) → IsBefore old now
    → new.removals ≡ with_removal now removal old.removals → new.past ≡ with_stay (new_stay now old.machine old.regs after) old.past → IsBefore new (now + 1)
before-as old new now happened removal after before removals past =
    let is : IsBefore (host_after old now happened removal after) (now + 1) = before-after old now happened removal after before in
    record {
      removals = subst (λ list. All (λ u. u < now + 1) (times list)) (sym removals) is.removals;
      past = subst (λ list. All (λ u. u < now + 1) (begins list)) (sym past) is.past;
    }
