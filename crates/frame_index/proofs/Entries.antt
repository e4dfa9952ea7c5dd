-- Lists of entries: in order, after a filter, and as they stand in a map.
use Rattle.std.proofs.Common.{◌≡◌, ℕ, zero, inl, inr, Bool, true, false, cond, Some, List, [], ◌∷◌, Ordering, refl, sym, ap, ◌∙◌, arith, Contains}
use Rattle.std.proofs.lemmas.Map.Keys.{sorted_head, sorted_tail}
use Rattle.std.proofs.lemmas.Map.Lookups.{CmpEqualImpliesEq}
use Rattle.std.proofs.lemmas.Map.Views.{IsInRange-from_range_contains, btree_map_get_iff, range_contains-from_IsInRange}
use Rattle.std.specs.BTreeMap.{BTreeMap, IsOrdered, get}
use Rattle.std.specs.BTreeMap.Range.{IsInRange, entries_between, range_contains}
use Rattle.std.specs.Cmp.{IsTotalOrder}
use Rattle.std.specs.List.{AllByRecursion, filter}
use Rattle.std.specs.List.Sorted.{IsStrictlySortedBy}
use Rattle.std.specs.Map.{keys_of}
use Rattle.std.specs.declared.cmp.Ordering.TheVariants.{Less}
use Rattle.std.specs.declared.ops.Bound.{Bound}
use Rattle.slab.proofs.SlabLemmas.{Contains-cons, Contains-cons_cases}
use Rattle.paging_model.specs.Counting.{IsIn}

pub contains_from_is_in : {X : Type 0} (xs : List X) (x : X) → IsIn x xs → Contains xs x
contains_from_is_in [] x is = absurd is
contains_from_is_in (one ∷ rest) x (inl same) = (zero, omega arith, sym same)
contains_from_is_in (one ∷ rest) x (inr is) = Contains-cons one x rest (contains_from_is_in rest x is)

pub is_in_from_contains : {X : Type 0} (xs : List X) (x : X) → Contains xs x → IsIn x xs
is_in_from_contains [] x has = absurd (omega (arith, has.1))
is_in_from_contains (one ∷ rest) x has = elim (Contains-cons_cases one x rest has) [
  | inl same ↦ inl (sym same)
  | inr there ↦ inr (is_in_from_contains rest x there)
]

module _ {X : Type 0} (test : X → Bool) where
  was_at : (b : Bool) (one : X) (rest kept : List X) (x : X) → (IsIn x kept → IsIn x rest) → IsIn x (cond b (one ∷ kept) kept) → IsIn x (one ∷ rest)
  was_at false one rest kept x deeper is = inr (deeper is)
  was_at true one rest kept x deeper (inl same) = inl same
  was_at true one rest kept x deeper (inr is) = inr (deeper is)

  pub filter_was : (xs : List X) (x : X) → IsIn x (filter test xs) → IsIn x xs
  filter_was [] x is = is
  filter_was (one ∷ rest) x is = was_at (test one) one rest (filter test rest) x (filter_was rest x) is

  passes_at : (b : Bool) (one : X) (kept : List X) (x : X) → test one ≡ b → (IsIn x kept → test x ≡ true) → IsIn x (cond b (one ∷ kept) kept) → test x ≡ true
  passes_at false one kept x answer deeper is = deeper is
  passes_at true one kept x answer deeper (inl same) = ap test same ∙ answer
  passes_at true one kept x answer deeper (inr is) = deeper is

  pub filter_passes : (xs : List X) (x : X) → IsIn x (filter test xs) → test x ≡ true
  filter_passes [] x is = absurd is
  filter_passes (one ∷ rest) x is = passes_at (test one) one (filter test rest) x refl (filter_passes rest x) is

  stays_at : (b : Bool) (one : X) (kept : List X) (x : X) → IsIn x kept → IsIn x (cond b (one ∷ kept) kept)
  stays_at false one kept x is = is
  stays_at true one kept x is = inr is

  first_at : (b : Bool) (one : X) (kept : List X) (x : X) → test one ≡ b → x ≡ one → test x ≡ true → IsIn x (cond b (one ∷ kept) kept)
  first_at false one kept x answer same passes = let e = ap test same in absurd (cc)
  first_at true one kept x answer same passes = inl same

  pub filter_stays : (xs : List X) (x : X) → IsIn x xs → test x ≡ true → IsIn x (filter test xs)
  filter_stays [] x is passes = is
  filter_stays (one ∷ rest) x (inl same) passes = first_at (test one) one (filter test rest) x refl same passes
  filter_stays (one ∷ rest) x (inr is) passes = stays_at (test one) one (filter test rest) x (filter_stays rest x is passes)

module _ {K : Type 0} (R : K → K → Ordering) where
  -- each key is below those after it
  abbrev pub AreRising : List (K × ℕ) → Type 0
  AreRising [] = Unit {0}
  AreRising (one ∷ rest) = ((other : K × ℕ) → IsIn other rest → R one.0 other.0 ≡ Less) × AreRising rest

  each_above : (key : K) (es : List (K × ℕ)) → AllByRecursion (λ (k : K). R key k ≡ Less) (keys_of es) → (other : K × ℕ) → IsIn other es → R key other.0 ≡ Less
  each_above key [] all other is = absurd is
  each_above key (one ∷ rest) all other (inl same) = ap (λ (e : K × ℕ). R key e.0) same ∙ all.0
  each_above key (one ∷ rest) all other (inr is) = each_above key rest all.1 other is

  pub rising_from_sorted : (es : List (K × ℕ)) → IsStrictlySortedBy R (keys_of es) → AreRising es
  rising_from_sorted [] sorted = tt
  rising_from_sorted (one ∷ rest) sorted = (
    each_above one.0 rest (sorted_head R one.0 (keys_of rest) sorted),
    rising_from_sorted rest (sorted_tail R one.0 (keys_of rest) sorted),
  )

  rising_at : (b : Bool) (one : K × ℕ) (kept : List (K × ℕ)) → ((other : K × ℕ) → IsIn other kept → R one.0 other.0 ≡ Less) → AreRising kept → AreRising (cond b (one ∷ kept) kept)
  rising_at false one kept above rising = rising
  rising_at true one kept above rising = (above, rising)

  pub rising_filter : (test : K × ℕ → Bool) (es : List (K × ℕ)) → AreRising es → AreRising (filter test es)
  rising_filter test [] rising = tt
  rising_filter test (one ∷ rest) rising =
      rising_at (test one) one (filter test rest) (λ other is. rising.0 other (filter_was test rest other is)) (rising_filter test rest rising.1)

  module _ (total : IsTotalOrder R) (exact : CmpEqualImpliesEq R) (map : BTreeMap K ℕ) (ordered : IsOrdered R map) (lo hi : Bound K) where
    pub between_is : (entry : K × ℕ) → IsIn entry (entries_between R lo hi map.entries) → IsInRange R lo hi entry.0 × (get R map entry.0 ≡ Some entry.1)
    between_is entry is = (
      IsInRange-from_range_contains total lo hi entry.0 (filter_passes (λ (e : K × ℕ). range_contains R lo hi e.0) map.entries entry is),
      (btree_map_get_iff total exact map ordered entry.0 entry.1).1 (contains_from_is_in map.entries entry (filter_was (λ (e : K × ℕ). range_contains R lo hi e.0) map.entries entry is)),
    )

    pub is_between : (key : K) (slot : ℕ) → get R map key ≡ Some slot → IsInRange R lo hi key → IsIn (key, slot) (entries_between R lo hi map.entries)
    is_between key slot found within =
        filter_stays (λ (e : K × ℕ). range_contains R lo hi e.0) map.entries (key, slot)
        (is_in_from_contains map.entries (key, slot) ((btree_map_get_iff total exact map ordered key slot).0 found))
        (range_contains-from_IsInRange total lo hi key within)

    pub between_rising : AreRising (entries_between R lo hi map.entries)
    between_rising = rising_filter (λ (e : K × ℕ). range_contains R lo hi e.0) map.entries (rising_from_sorted map.entries ordered)
