-- A denial is none exactly where an access is granted.
use Rattle.std.proofs.Common.{◌≡◌, ℕ, Bool, true, false, List, [], ◌∷◌, Option, Some, refl, IsTrue, IsNone, is_none, ◌↔◌, cond, arith}
use Rattle.std.specs.Prelude.{not, find, ◌||◌}
use Rattle.std.specs.List.{list_any}
use Rattle.std.proofs.lemmas.Grind.{common_steps}
use Rattle.paging_model.specs.declared.registers.Regs.{Regs}
use Rattle.paging_model.specs.declared.entries.Bits.{Bits}
use Rattle.paging_model.specs.declared.access.Access.{Access}
use Rattle.paging_model.specs.declared.access.Rule.{Rule}
use Rattle.paging_model.specs.AccessRights.{is_granted, denial_of, refuses, rules}

-- none is found exactly where none passes
is_none-find : {X : Type 0} (test : X → Bool) (xs : List X) → is_none (find test xs) ≡ not (list_any test xs)
is_none-find test [] = refl
is_none-find test (x ∷ xs) = by (test x) (is_none-find test xs)
  where
    by : (passes : Bool) → is_none (find test xs) ≡ not (list_any test xs) → is_none (cond passes (Some x) (find test xs)) ≡ not (passes || list_any test xs)
    by true rest = refl
    by false rest = rest

pub denial_of-none : (regs : Regs) (access : Access) (bits : Bits) (key : ℕ)
    → is_none (denial_of regs access bits key) ≡ is_granted regs access bits key
unfolding denial_of is_granted
denial_of-none regs access bits key = is_none-find (refuses regs access bits key) rules

pub none_exactly_where_granted : (regs : Regs) (access : Access) (bits : Bits) (key : ℕ)
    → IsNone (denial_of regs access bits key) ↔ IsTrue (is_granted regs access bits key)
none_exactly_where_granted regs access bits key =
    let same = denial_of-none regs access bits key in
    (λ none. grind (arith, common_steps), λ granted. grind (arith, common_steps))

-- so is any denial that is the defined one
pub granted_where_none : (regs : Regs) (access : Access) (bits : Bits) (key : ℕ) (denial : Option Rule)
    → denial ≡ denial_of regs access bits key → IsNone denial ↔ IsTrue (is_granted regs access bits key)
granted_where_none regs access bits key denial is_denial = rw is_denial (none_exactly_where_granted regs access bits key)
