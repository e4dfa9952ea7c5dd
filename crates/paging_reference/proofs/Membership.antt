-- What stands in a list that was made of others.
use Rattle.std.proofs.Common.{◌≡◌, ℕ, zero, suc, ◌+◌, ◌<◌, inl, inr, ◌⊎◌, ◌↔◌, Bool, true, false, cond, Option, Some, None, List, [], ◌∷◌, ◌++◌, length, get_or, take, refl, sym, ap, ◌∙◌, arith}
use Rattle.std.specs.List.{filter, filter_map, cons_option}
use Rattle.std.proofs.lemmas.List.{take_more}
use Rattle.paging_model.specs.Counting.{IsIn}

module _ {Thing : Type 0} where
  pub IsIn-append_left : (thing : Thing) (xs ys : List Thing) → IsIn thing xs → IsIn thing (xs ++ ys)
  IsIn-append_left thing [] ys is_in = elim is_in [ ]
  IsIn-append_left thing (x ∷ xs) ys (inl here) = inl here
  IsIn-append_left thing (x ∷ xs) ys (inr later) = inr (IsIn-append_left thing xs ys later)

  pub IsIn-append_right : (thing : Thing) (xs ys : List Thing) → IsIn thing ys → IsIn thing (xs ++ ys)
  IsIn-append_right thing [] ys is_in = is_in
  IsIn-append_right thing (x ∷ xs) ys is_in = inr (IsIn-append_right thing xs ys is_in)

  pub IsIn-append_cases : (thing : Thing) (xs ys : List Thing) → IsIn thing (xs ++ ys) → IsIn thing xs ⊎ IsIn thing ys
  IsIn-append_cases thing [] ys is_in = inr is_in
  IsIn-append_cases thing (x ∷ xs) ys (inl here) = inl (inl here)
  IsIn-append_cases thing (x ∷ xs) ys (inr later) =
      elim (IsIn-append_cases thing xs ys later) [ inl left ↦ inl (inr left) | inr right ↦ inr right ]

  -- one element more at the end
  pub IsIn-append_one : (thing : Thing) (xs : List Thing) (last : Thing) → IsIn thing (xs ++ last ∷ []) ↔ (IsIn thing xs ⊎ (thing ≡ last))
  IsIn-append_one thing xs last = (
    λ is_in. elim (IsIn-append_cases thing xs (last ∷ []) is_in) [ inl before ↦ inl before | inr here ↦ inr (only here) ],
    elim [ inl before ↦ IsIn-append_left thing xs (last ∷ []) before | inr same ↦ IsIn-append_right thing xs (last ∷ []) (inl same) ],
  )
    where
      only : IsIn thing (last ∷ []) → thing ≡ last
      only (inl same) = same
      only (inr none) = elim none [ ]

  pub IsIn-take : (thing : Thing) (xs : List Thing) (i : ℕ) (next : Thing) → i < length xs → next ≡ get_or xs i next
      → IsIn thing (take (i + 1) xs) ↔ (IsIn thing (take i xs) ⊎ (thing ≡ next))
  IsIn-take thing xs i next within is_next =
      rw (take_more xs i next within, ← is_next) (IsIn-append_one thing (take i xs) next)

  -- the element at an index
  pub IsIn-get : (xs : List Thing) (i : ℕ) (thing read : Thing) → i < length xs → read ≡ get_or xs i read → read ≡ thing → IsIn thing xs
  IsIn-get [] i thing read within is_read same = absurd (omega arith)
  IsIn-get (x ∷ xs) zero thing read within is_read same = inl (sym same ∙ is_read)
  IsIn-get (x ∷ xs) (suc i) thing read within is_read same = inr (IsIn-get xs i thing read (omega arith) is_read same)

  pub IsIn-filter : (test : Thing → Bool) (thing : Thing) (xs : List Thing) → IsIn thing xs → test thing ≡ true → IsIn thing (filter test xs)
  IsIn-filter test thing [] is_in passes = elim is_in [ ]
  IsIn-filter test thing (x ∷ xs) (inl here) passes =
      let first : test x ≡ true = ap test (sym here) ∙ passes in
      rw first (inl here)
  IsIn-filter test thing (x ∷ xs) (inr later) passes = after (test x) (IsIn-filter test thing xs later passes)
    where
      after : (first : Bool) → IsIn thing (filter test xs) → IsIn thing (cond first (x ∷ filter test xs) (filter test xs))
      after true is_in = inr is_in
      after false is_in = is_in

  pub IsIn-filter_only : (test : Thing → Bool) (thing : Thing) (xs : List Thing) → IsIn thing (filter test xs) → IsIn thing xs × (test thing ≡ true)
  IsIn-filter_only test thing [] is_in = elim is_in [ ]
  IsIn-filter_only test thing (x ∷ xs) is_in = by (test x) refl (IsIn-filter_only test thing xs) is_in
    where
      by : (first : Bool) → test x ≡ first → (IsIn thing (filter test xs) → IsIn thing xs × (test thing ≡ true))
          → IsIn thing (cond first (x ∷ filter test xs) (filter test xs)) → IsIn thing (x ∷ xs) × (test thing ≡ true)
      by true first only (inl here) = (inl here, ap test here ∙ first)
      by true first only (inr later) = let rest = only later in (inr rest.0, rest.1)
      by false first only later = let rest = only later in (inr rest.0, rest.1)

module _ {Thing Made : Type 0} (make : Thing → Option Made) where
  pub IsIn-filter_map : (thing : Thing) (made : Made) (xs : List Thing) → IsIn thing xs → make thing ≡ Some made → IsIn made (filter_map make xs)
  IsIn-filter_map thing made [] is_in is_made = elim is_in [ ]
  IsIn-filter_map thing made (x ∷ xs) (inl here) is_made =
      let first : make x ≡ Some made = ap make (sym here) ∙ is_made in
      rw first (inl refl)
  IsIn-filter_map thing made (x ∷ xs) (inr later) is_made = after (make x) (IsIn-filter_map thing made xs later is_made)
    where
      after : (first : Option Made) → IsIn made (filter_map make xs) → IsIn made (cons_option first (filter_map make xs))
      after None is_in = is_in
      after (Some one) is_in = inr is_in

  pub IsIn-filter_map_only : (made : Made) (xs : List Thing) → IsIn made (filter_map make xs) → (thing : Thing) × IsIn thing xs × (make thing ≡ Some made)
  IsIn-filter_map_only made [] is_in = elim is_in [ ]
  IsIn-filter_map_only made (x ∷ xs) is_in = by (make x) refl (IsIn-filter_map_only made xs) is_in
    where
      by : (first : Option Made) → make x ≡ first
          → (IsIn made (filter_map make xs) → (thing : Thing) × IsIn thing xs × (make thing ≡ Some made))
          → IsIn made (cons_option first (filter_map make xs)) → (thing : Thing) × IsIn thing (x ∷ xs) × (make thing ≡ Some made)
      by None first only later = let rest = only later in (rest.0, inr rest.1, rest.2)
      by (Some one) first only (inl here) = (x, inl refl, first ∙ ap Some (sym here))
      by (Some one) first only (inr later) = let rest = only later in (rest.0, inr rest.1, rest.2)

-- what is read where the list goes so far doesn't depend on the default
pub any_default : (xs : List ℕ) (i : ℕ) → i < length xs → get_or xs i 0 ≡ get_or xs i (get_or xs i 0)
any_default [] i within = absurd (omega arith)
any_default (x ∷ xs) zero within = refl
any_default (x ∷ xs) (suc i) within = same xs i (get_or xs i 0) (omega arith)
  where
    same : (ys : List ℕ) (k d : ℕ) → k < length ys → get_or ys k 0 ≡ get_or ys k d
    same [] k d within = absurd (omega arith)
    same (y ∷ ys) zero d within = refl
    same (y ∷ ys) (suc k) d within = same ys k d (omega arith)

module _ {Thing : Type 0} where
  same_some : (one other : Thing) → Some one ≡ Some other → one ≡ other
  same_some one other same = cc

  -- what was found, at the end
  pub IsIn-append_found : (thing : Thing) (xs : List Thing) (found : Option Thing) (last : Thing) → found ≡ Some last
      → IsIn thing (xs ++ last ∷ []) ↔ (IsIn thing xs ⊎ (found ≡ Some thing))
  IsIn-append_found thing xs found last is =
      let added = IsIn-append_one thing xs last in (
        λ is_in. elim (added.0 is_in) [ inl before ↦ inl before | inr same ↦ inr (is ∙ ap Some (sym same)) ],
        elim [ inl before ↦ added.1 (inl before) | inr same ↦ added.1 (inr (same_some thing last (sym same ∙ is))) ],
      )
