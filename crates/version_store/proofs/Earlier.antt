-- Changes that aren't after a time: how many stand at the beginning, and that they tell nothing of later times.
use Rattle.std.proofs.Common.{◌≡◌, ℕ, zero, suc, ◌+◌, ◌<◌, ◌≤◌, ◌==◌, ◌&&◌, ◌||◌, inl, inr, Bool, false, List, [], ◌∷◌, take, drop, get_or, Some, refl, sym, ap, ◌∙◌, add-one, arith}
use Rattle.std.proofs.Math.Nat.{le-max_left, le-max_right}
use Rattle.std.proofs.lemmas.Bool.{cases_lt}
use Rattle.std.proofs.lemmas.Bool.Decides.{nat_tests}
use Rattle.std.proofs.lemmas.List.{take-append-le, take_all}
use Rattle.std.specs.Prelude.{max, nat_lt, if◌then◌else◌}
use Rattle.version_store.specs.Changes.{is_changed_after, last_time, old_in}
use Rattle.version_store.specs.Records.{AreInOrderOfTime, change_at, changes_in}
use Rattle.version_store.specs.declared.change.Change.{Change}
use Rattle.version_store.proofs.Growing.{IsPassed}
use Rattle.version_store.proofs.LastTimes.{last_time-push}
use Rattle.version_store.proofs.Packing.{changes_in-alike, get_or-changes_in, length-changes_in}

-- the first changes in blocks
take-changes_in : (blocks : List (List ℕ)) (n count : ℕ) → count ≤ n → take count (changes_in blocks n) ≡ changes_in blocks count
take-changes_in blocks zero count within =
    let none : count ≡ 0 = omega arith in
    ap (λ (k : ℕ). take k (changes_in blocks 0)) none ∙ ap (changes_in blocks) (sym none)
take-changes_in blocks (suc n) count within = elim (cases_lt n count) [
  | inl all ↦
      let same : count ≡ suc n = omega arith in
      take_all count (changes_in blocks (suc n)) (let long = length-changes_in blocks (suc n) in omega (arith, long)) ∙ ap (changes_in blocks) (sym same)
  | inr some ↦
      take-append-le count (changes_in blocks n) (change_at blocks n ∷ []) (let long = length-changes_in blocks n in omega (arith, long))
      ∙ take-changes_in blocks n count some
]

-- a change that was read, and is not after a time
pub is_early : (blocks : List (List ℕ)) (n time i number : ℕ) (changes : List Change) (one : Change) → changes_in blocks n ≡ changes → i < n → i ≡ number → one ≡ get_or changes number one → one.time ≤ time → (change_at blocks i).time ≤ time
is_early blocks n time i number changes one are below here read early =
    let is : one.time ≡ (change_at blocks i).time =
    ap (λ (change : Change). change.time) (read ∙ (ap (λ k. get_or changes k one) (sym here) ∙ (ap (λ all. get_or all i one) (sym are) ∙ get_or-changes_in blocks n i one below))) in
    omega (arith, is, early)

-- where the changes are in order, the last of the first ones is the latest
pub early_until : (blocks : List (List ℕ)) (n count time : ℕ) (changes : List Change) → changes_in blocks n ≡ changes → AreInOrderOfTime blocks n → count ≤ n
    → ((i : ℕ) → i + 1 ≡ count → (change_at blocks i).time ≤ time) → last_time (take count changes) ≤ time
early_until blocks n zero time changes are order within last = omega arith
early_until blocks n (suc i) time changes are order within last =
    let is : last_time (take (suc i) changes) ≡ last_time (changes_in blocks (i + 1)) =
    ap (λ (all : List Change). last_time (take (suc i) all)) (sym are) ∙ (ap last_time (take-changes_in blocks n (suc i) within) ∙ ap (λ k. last_time (changes_in blocks k)) (sym (add-one i))) in
    let latest = order i (omega arith) in
    let early = last i (add-one i) in
    omega (arith, is, latest, early)

-- a change more that isn't before the latest
pub order-pushed : (old new : List (List ℕ)) (n len latest : ℕ) (one : Change) → len ≡ n + 1 → ((i : ℕ) → i < n → change_at new i ≡ change_at old i) → change_at new n ≡ one
    → latest ≡ last_time (changes_in old n) → latest ≤ one.time → AreInOrderOfTime old n → AreInOrderOfTime new len
order-pushed old new n len latest one len_is same value is later order i below = elim (cases_lt i n) [
  | inl before ↦
      let earlier : last_time (changes_in new (i + 1)) ≡ last_time (changes_in old (i + 1)) = ap last_time (changes_in-alike old new (i + 1) (λ k within. same k (omega arith))) in
      let time : (change_at new i).time ≡ (change_at old i).time = ap (λ (change : Change). change.time) (same i before) in
      let was = order i before in
      omega (arith, earlier, time, was)
  | inr last ↦
      let here : i ≡ n = omega arith in
      let all : last_time (changes_in new (i + 1)) ≡ max (last_time (changes_in old n)) one.time =
      ap (λ k. last_time (changes_in new (k + 1))) here ∙ (ap (λ k. last_time (changes_in new k)) (add-one n)
      ∙ (last_time-push (changes_in new n) (change_at new n) ∙ (ap (λ (before : List Change). max (last_time before) (change_at new n).time) (changes_in-alike old new n same)
      ∙ ap (λ (change : Change). max (last_time (changes_in old n)) change.time) value))) in
      let time : (change_at new i).time ≡ one.time = ap (λ k. (change_at new k).time) here ∙ ap (λ (change : Change). change.time) value in
      omega (arith, all, time, is, later)
]

-- changes of which none is after a time tell nothing of it and of later ones
pub passed_until : (changes : List Change) (count offset time : ℕ) → last_time (take count changes) ≤ time → IsPassed changes (drop count changes) offset time
passed_until changes zero offset time early = record { same = λ t from. refl }
passed_until [] (suc n) offset time early = record { same = λ t from. refl }
passed_until (one ∷ rest) (suc n) offset time early =
    let first = le-max_left one.time (last_time (take n rest)) in
    let others = le-max_right one.time (last_time (take n rest)) in
    record {
      same = λ t from.
          let not : (one.offset == offset && nat_lt t one.time) ≡ false = grind (arith, nat_tests, first, early, from) in
          ap (λ (b : Bool). if b then Some one.old else old_in rest offset t) not
          ∙ (passed_until rest n offset time (omega (arith, others, early))).same t from;
    }

pub none_after : (changes : List Change) (offset time : ℕ) → last_time changes ≤ time → is_changed_after changes offset time ≡ false
none_after [] offset time early = refl
none_after (one ∷ rest) offset time early =
    let first = le-max_left one.time (last_time rest) in
    let others = le-max_right one.time (last_time rest) in
    let not : (one.offset == offset && nat_lt time one.time) ≡ false = grind (arith, nat_tests, first, early) in
    ap (λ (b : Bool). b || is_changed_after rest offset time) not ∙ none_after rest offset time (omega (arith, others, early))
