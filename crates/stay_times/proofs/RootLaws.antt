-- The times of roots, each with its own.
use Rattle.std.proofs.Common.{◌≡◌, ℕ, ◌≤◌, ◌&&◌, Bool, true, false, ◌⊎◌, inl, inr, List, Option, Some, refl, sym, ap, ◌∙◌, arith}
use Rattle.std.specs.Prelude.{◌||◌, ◌==◌}
use Rattle.std.proofs.lemmas.Bool.Decides.{nat_tests}
use Rattle.time_sets.specs.Sets.{is_within}
use Rattle.stay_times.specs.Periods.{HasSomeTime, has_if, is_wanted, under_root}
use Rattle.cache_rules.specs.declared.stays.Stay.{Stay}

-- what has times of its own has some time, or is as before
pub some-before : (old new : Option (List (ℕ × ℕ))) (is_root : Bool) (first last : ℕ) (times : List (ℕ × ℕ)) → first ≤ last
    → has_if new first ≡ (has_if old first || (is_root && is_within (first, last) first)) → (is_root ≡ false → new ≡ old) → new ≡ Some times
    → (old ≡ Some times) ⊎ HasSomeTime times
some-before old new false first last times order members same is = inl (sym (same refl) ∙ is)
some-before old new true first last times order members same is =
    inr (record { t = first; is = sym (ap (λ o. has_if o first) is) ∙ (members ∙ or-right (has_if old first) (is_within (first, last) first) (grind (arith, nat_tests, order))) })
  where
    or-right : (a b : Bool) → b ≡ true → (a || b) ≡ true
    or-right true b h = refl
    or-right false b h = h

pub wanted-under_root : (pcid root : ℕ) (one : Stay) → ((one.pcid == pcid) && (root == one.root)) ≡ is_wanted (under_root pcid root) one
wanted-under_root pcid root one = and_true (one.pcid == pcid) (root == one.root)
  where
    and_true : (a b : Bool) → (a && b) ≡ ((a && true) && b)
    and_true true b = refl
    and_true false b = refl
