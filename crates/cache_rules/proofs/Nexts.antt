-- The first removal after a time is the next one, in a list by ascending times.
use Rattle.std.proofs.Common.{◌≡◌, ℕ, zero, suc, ◌+◌, ◌<◌, ◌≤◌, ◌&&◌, Bool, true, false, List, [], ◌∷◌, Option, Some, None, refl, ◌∙◌, arith, length, drop, map}
use Rattle.std.specs.List.{AllWithin}
use Rattle.std.specs.Prelude.{◌==◌, ◌||◌, if◌then◌else◌}
use Rattle.std.proofs.lemmas.Bool.Decides.{nat_tests}
use Rattle.history_model.specs.declared.caches.CacheKey.{CacheKey}
use Rattle.cache_rules.specs.declared.removals.Removed.{Removed}
use Rattle.cache_rules.specs.Removals.{AreAscending, IsNextTime, first_time, removal_takes, removed_in}
use Rattle.cache_rules.proofs.Orders.{ascending-after}

abbrev times : List Removed → List ℕ
times list = map (λ (one : Removed). one.time) list

-- nothing is taken before a list begins
pub removed_in-early : (low t : ℕ) (list : List Removed) (key : CacheKey) → AreAscending low (times list) → t < low → removed_in list key t ≡ false
removed_in-early low t [] key ascending h = refl
removed_in-early low t (one ∷ rest) key ascending h =
    let later : removed_in rest key t ≡ false = removed_in-early (one.time + 1) t rest key ascending.1 (omega (arith, ascending.0)) in
    grind (arith, nat_tests, later, ascending.0)

-- removals up to a time take nothing after it
skipped : (list : List Removed) (place t : ℕ) (key : CacheKey) → place ≤ length list → AllWithin (λ (one : Removed). one.time ≤ t) list 0 place
    → (u : ℕ) → t < u → removed_in list key u ≡ removed_in (drop place list) key u
skipped list zero t key within before u h = refl
skipped [] (suc place) t key within before u h = absurd (omega arith)
skipped (one ∷ rest) (suc place) t key within before u h =
    let first : one.time ≤ t = before 0 one (omega arith) (omega arith) in
    let later : removed_in rest key u ≡ removed_in (drop place rest) key u =
    skipped rest place t key (omega arith) (λ k d from to. before (suc k) d (omega arith) (omega arith)) u h in
    grind (arith, nat_tests, first, later)

or_false : (a b : Bool) → a ≡ false → (a || b) ≡ b
or_false true b h = absurd (cc)
or_false false b h = refl

-- a removal that takes nothing
next-more : (one : Removed) (rest : List Removed) (key : CacheKey) (t : ℕ) (found : Option ℕ) → removal_takes one.removal key ≡ false
    → IsNextTime (removed_in rest key) t found → IsNextTime (removed_in (one ∷ rest) key) t found
next-more one rest key t found spares next = by_case found next
  where
    leaves : (u : ℕ) → (one.time == u && removal_takes one.removal key) ≡ false
    leaves u = grind (arith, nat_tests, spares)

    by_case : (found : Option ℕ) → IsNextTime (removed_in rest key) t found → IsNextTime (removed_in (one ∷ rest) key) t found
    by_case None next = λ u h. or_false _ _ (leaves u) ∙ next u h
    by_case (Some k) next = (next.0, or_false _ _ (leaves k) ∙ next.1, λ u h g. or_false _ _ (leaves u) ∙ next.2 u h g)

next_of : (one : Removed) (rest : List Removed) (key : CacheKey) (t : ℕ) (took : Bool) → t < one.time → AreAscending (one.time + 1) (times rest)
    → removal_takes one.removal key ≡ took → IsNextTime (removed_in rest key) t (first_time rest key)
    → IsNextTime (removed_in (one ∷ rest) key) t (if took then Some one.time else first_time rest key)
next_of one rest key t true late ascending is later =
    (late, grind (arith, nat_tests, is), λ u h g. let early : removed_in rest key u ≡ false = removed_in-early (one.time + 1) u rest key ascending (omega arith) in grind (arith, nat_tests, early))
next_of one rest key t false late ascending is later = next-more one rest key t (first_time rest key) is later

next-first : (low : ℕ) (list : List Removed) (key : CacheKey) (t : ℕ) → t < low → AreAscending low (times list) → IsNextTime (removed_in list key) t (first_time list key)
next-first low [] key t late ascending = λ u h. refl
next-first low (one ∷ rest) key t late ascending =
    next_of one rest key t (removal_takes one.removal key) (omega (arith, ascending.0)) ascending.1 refl
    (next-first (one.time + 1) rest key t (omega (arith, ascending.0)) ascending.1)

same-next : (f g : ℕ → Bool) (t : ℕ) (found : Option ℕ) → ((u : ℕ) → t < u → f u ≡ g u) → IsNextTime g t found → IsNextTime f t found
same-next f g t None same next = λ u h. same u h ∙ next u h
same-next f g t (Some k) same next = (next.0, same k next.0 ∙ next.1, λ u h before. same u h ∙ next.2 u h before)

-- the first one from the place on at which the later removals begin
pub next-from : (low : ℕ) (list : List Removed) (key : CacheKey) (t place : ℕ) → AreAscending low (times list) → place ≤ length list
    → AllWithin (λ (one : Removed). one.time ≤ t) list 0 place → AllWithin (λ (one : Removed). t < one.time) list place (length list)
    → IsNextTime (removed_in list key) t (first_time (drop place list) key)
next-from low list key t place ascending within before after =
    same-next (removed_in list key) (removed_in (drop place list) key) t (first_time (drop place list) key) (skipped list place t key within before)
    (next-first (t + 1) (drop place list) key t (omega arith) (ascending-after (λ (one : Removed). one.time) low list place t ascending after))
