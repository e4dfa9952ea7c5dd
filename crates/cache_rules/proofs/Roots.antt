-- The root of a PCID at its place among those of others.
use Rattle.std.proofs.Common.{◌≡◌, ℕ, zero, suc, ◌+◌, ◌<◌, ◌≤◌, Bool, true, false, List, [], ◌∷◌, Some, None, length, get_or, set, map, refl, sym, ap, ◌∙◌, subst, arith}
use Rattle.std.specs.List.{AllWithin, insert}
use Rattle.std.specs.List.Sorted.{IsPartitionPoint}
use Rattle.std.specs.Prelude.{◌==◌, nat_lt, if◌then◌else◌}
use Rattle.std.proofs.lemmas.Bool.Decides.{nat_tests}
use Rattle.cache_rules.specs.Hosts.{root_in, with_home}
use Rattle.cache_rules.specs.Removals.{AreAscending}

abbrev pub pcids : List (ℕ × ℕ) → List ℕ
pcids homes = map (λ (one : ℕ × ℕ). one.0) homes

same-test : (a b : ℕ) → a ≡ b → (a == b) ≡ true
same-test a b h = grind (arith, nat_tests)

other-test : (a b : ℕ) → a < b → (b == a) ≡ false
other-test a b h = grind (arith, nat_tests)

-- the place at which a PCID stands or belongs: those before it are less, and those from it on aren't
pub record IsPlaceOf (homes : List (ℕ × ℕ)) (c place : ℕ) : Type 0 where
  pub within : place ≤ length homes
  pub before : AllWithin (λ (one : ℕ × ℕ). one.0 < c) homes 0 place
  pub after : AllWithin (λ (one : ℕ × ℕ). c ≤ one.0) homes place (length homes)

pub place-is : (homes items : List (ℕ × ℕ)) (c place : ℕ) → homes ≡ items → place ≤ length homes
    → IsPartitionPoint (λ (one : ℕ × ℕ). one.0 < c) (λ (one : ℕ × ℕ). c ≤ one.0) homes place → IsPlaceOf items c place
place-is homes items c place same within point =
    subst (λ list. IsPlaceOf list c place) same (record { within = within; before = point.0; after = point.1 })

rest-place : (one : ℕ × ℕ) (rest : List (ℕ × ℕ)) (c place : ℕ) → IsPlaceOf (one ∷ rest) c (suc place) → IsPlaceOf rest c place
rest-place one rest c place is = record {
  within = let within = is.within in omega arith;
  before = λ k d low high. is.before (suc k) d (omega arith) (omega arith);
  after = λ k d low high. is.after (suc k) d (omega arith) (omega arith);
}

-- with the root of another PCID before it
with_home-later : (one : ℕ × ℕ) (rest : List (ℕ × ℕ)) (c root : ℕ) → one.0 < c → with_home c root (one ∷ rest) ≡ one ∷ with_home c root rest
with_home-later one rest c root h =
    let same : (c == one.0) ≡ false = grind (arith, nat_tests) in
    let less : nat_lt c one.0 ≡ false = grind (arith, nat_tests) in
    rw (same, less) refl

-- where it stands
pub set-there : (homes : List (ℕ × ℕ)) (c root place : ℕ) (d : ℕ × ℕ) → IsPlaceOf homes c place → place < length homes → (get_or homes place d).0 ≡ c
    → set homes place (c, root) ≡ with_home c root homes
set-there [] c root place d is within there = absurd (omega arith)
set-there (one ∷ rest) c root zero d is within there =
    let same : (c == one.0) ≡ true = same-test c one.0 (sym there) in
    rw same refl
set-there (one ∷ rest) c root (suc place) d is within there =
    let first : one.0 < c = is.before 0 one (omega arith) (omega arith) in
    ap (λ (list : List (ℕ × ℕ)). one ∷ list) (set-there rest c root place d (rest-place one rest c place is) (omega arith) there)
    ∙ sym (with_home-later one rest c root first)

-- where it belongs
pub insert-there : (homes : List (ℕ × ℕ)) (c root place : ℕ) → IsPlaceOf homes c place
    → ((d : ℕ × ℕ) → place < length homes → (get_or homes place d).0 ≡ c → ⊥) → insert homes place (c, root) ≡ with_home c root homes
insert-there [] c root zero is other = refl
insert-there [] c root (suc place) is other = absurd (let within = is.within in omega arith)
insert-there (one ∷ rest) c root zero is other =
    let from : c ≤ one.0 = is.after 0 one (omega arith) (omega arith) in
    let differs : one.0 ≡ c → ⊥ = other one (omega arith) in
    let less : c < one.0 = grind (arith, from, differs) in
    let same : (c == one.0) ≡ false = grind (arith, nat_tests) in
    let test : nat_lt c one.0 ≡ true = grind (arith, nat_tests) in
    rw (same, test) refl
insert-there (one ∷ rest) c root (suc place) is other =
    let first : one.0 < c = is.before 0 one (omega arith) (omega arith) in
    ap (λ (list : List (ℕ × ℕ)). one ∷ list) (insert-there rest c root place (rest-place one rest c place is) (λ d within there. other d (omega arith) there))
    ∙ sym (with_home-later one rest c root first)

-- the root of a PCID that stands there
pub root-there : (homes : List (ℕ × ℕ)) (c place : ℕ) (d : ℕ × ℕ) → IsPlaceOf homes c place → place < length homes → (get_or homes place d).0 ≡ c
    → root_in homes c ≡ Some (get_or homes place d).1
root-there [] c place d is within there = absurd (omega arith)
root-there (one ∷ rest) c zero d is within there =
    let same : (one.0 == c) ≡ true = same-test one.0 c there in rw same refl
root-there (one ∷ rest) c (suc place) d is within there =
    let first : one.0 < c = is.before 0 one (omega arith) (omega arith) in
    let other : (one.0 == c) ≡ false = grind (arith, nat_tests) in
    rw other (root-there rest c place d (rest-place one rest c place is) (omega arith) there)

-- among greater PCIDs there is none
root-early : (low : ℕ) (homes : List (ℕ × ℕ)) (c : ℕ) → AreAscending low (pcids homes) → c < low → root_in homes c ≡ None
root-early low [] c ascending h = refl
root-early low (one ∷ rest) c ascending h =
    let other : (one.0 == c) ≡ false = (let from = ascending.0 in grind (arith, nat_tests, from)) in
    rw other (root-early (one.0 + 1) rest c ascending.1 (omega (arith, ascending.0)))

-- a PCID that doesn't stand at its place has no root
pub no_root-there : (low : ℕ) (homes : List (ℕ × ℕ)) (c place : ℕ) → AreAscending low (pcids homes) → IsPlaceOf homes c place
    → ((d : ℕ × ℕ) → place < length homes → (get_or homes place d).0 ≡ c → ⊥) → root_in homes c ≡ None
no_root-there low [] c place ascending is other = refl
no_root-there low (one ∷ rest) c zero ascending is other =
    let from : c ≤ one.0 = is.after 0 one (omega arith) (omega arith) in
    let differs : one.0 ≡ c → ⊥ = other one (omega arith) in
    let less : c < one.0 = grind (arith, from, differs) in
    root-early one.0 (one ∷ rest) c (omega arith, ascending.1) less
no_root-there low (one ∷ rest) c (suc place) ascending is other =
    let first : one.0 < c = is.before 0 one (omega arith) (omega arith) in
    let test : (one.0 == c) ≡ false = grind (arith, nat_tests) in
    rw test (no_root-there (one.0 + 1) rest c place ascending.1 (rest-place one rest c place is) (λ d within there. other d (omega arith) there))

-- roots stay in the order of their PCIDs
pub with_home-ascends : (low c root : ℕ) (homes : List (ℕ × ℕ)) → AreAscending low (pcids homes) → low ≤ c → AreAscending low (pcids (with_home c root homes))
with_home-ascends low c root [] ascending from = (from, tt)
with_home-ascends low c root (one ∷ rest) ascending from =
    by_tests (c == one.0) (nat_lt c one.0) refl refl (λ from. with_home-ascends (one.0 + 1) c root rest ascending.1 from)
  where
    by_tests : (same less : Bool) → (c == one.0) ≡ same → nat_lt c one.0 ≡ less
        → (one.0 + 1 ≤ c → AreAscending (one.0 + 1) (pcids (with_home c root rest)))
        → AreAscending low (pcids (if same then (c, root) ∷ rest else (if less then (c, root) ∷ one ∷ rest else one ∷ with_home c root rest)))
    by_tests true less is test later =
        let here : one.0 ≡ c = grind (arith, nat_tests) in (from, subst (λ n. AreAscending (n + 1) (pcids rest)) here ascending.1)
    by_tests false true is test later = (from, (grind (arith, nat_tests), ascending.1))
    by_tests false false is test later = (ascending.0, later (grind (arith, nat_tests)))

any-default : (homes : List (ℕ × ℕ)) (place : ℕ) (d e : ℕ × ℕ) → place < length homes → get_or homes place d ≡ get_or homes place e
any-default [] place d e within = absurd (omega arith)
any-default (one ∷ rest) zero d e within = refl
any-default (one ∷ rest) (suc place) d e within = any-default rest place d e (omega arith)

-- the same of what is read at the place
module _ (homes : List (ℕ × ℕ)) (c place : ℕ) (home : ℕ × ℕ) where
  pub root-read : IsPlaceOf homes c place → place < length homes → home ≡ get_or homes place home → home.0 ≡ c → Some home.1 ≡ root_in homes c
  root-read is within read there =
      ap (λ (one : ℕ × ℕ). Some one.1) read ∙ sym (root-there homes c place home is within (ap (λ (one : ℕ × ℕ). one.0) (sym read) ∙ there))

  pub no_root-read : AreAscending 0 (pcids homes) → IsPlaceOf homes c place → place < length homes → home ≡ get_or homes place home
      → (home.0 ≡ c → ⊥) → None ≡ root_in homes c
  no_root-read ascending is within read other =
      sym (no_root-there 0 homes c place ascending is
      (λ d within there. other (ap (λ (one : ℕ × ℕ). one.0) (read ∙ any-default homes place home d within) ∙ there)))

  pub set-read : (root : ℕ) → IsPlaceOf homes c place → place < length homes → home ≡ get_or homes place home → home.0 ≡ c
      → set homes place (c, root) ≡ with_home c root homes
  set-read root is within read there = set-there homes c root place home is within (ap (λ (one : ℕ × ℕ). one.0) (sym read) ∙ there)

  pub insert-read : (root : ℕ) → IsPlaceOf homes c place → (place < length homes → (home ≡ get_or homes place home) × (home.0 ≡ c → ⊥))
      → insert homes place (c, root) ≡ with_home c root homes
  insert-read root is other =
      insert-there homes c root place is
      (λ d within there. (other within).1 (ap (λ (one : ℕ × ℕ). one.0) ((other within).0 ∙ any-default homes place home d within) ∙ there))
