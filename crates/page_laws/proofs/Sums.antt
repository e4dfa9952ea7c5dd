-- Two lists of the same uses, each once, have one sum of page numbers.
use Rattle.std.proofs.Common.{◌≡◌, ℕ, ◌+◌, inl, inr, List, [], ◌∷◌, ◌++◌, refl, sym, ap, ◌∙◌, subst, arith}
use Rattle.paging_model.specs.Counting.{IsIn, AreDistinct}
use Rattle.paging_model.specs.Memory.{Memory}
use Rattle.paging_model.specs.declared.registers.Settings.{Settings}
use Rattle.paging_model.specs.declared.spaces.TableUse.{TableUse}
use Rattle.paging_laws.proofs.Membership.{in-append, append-left, append-right}
use Rattle.kept_laws.specs.PageNumbers.{page_number, page_numbers}
use Rattle.page_laws.proofs.PageCounts.{page_numbers-append}

-- a list with one of its things at a place
pub record Parts {Thing : Type 0} (one : Thing) (things : List Thing) : Type 0 where
  pub before : List Thing
  pub after : List Thing
  pub is : things ≡ before ++ one ∷ after

module _ {Thing : Type 0} where
  pub parts_at : (one : Thing) (things : List Thing) → IsIn one things → Parts one things
  parts_at one [] is = absurd is
  parts_at one (first ∷ rest) (inl same) = record { before = []; after = rest; is = ap (λ (it : Thing). it ∷ rest) (sym same) }
  parts_at one (first ∷ rest) (inr is) =
      let parts = parts_at one rest is in
      record { before = first ∷ parts.before; after = parts.after; is = ap (λ more. first ∷ more) parts.is }

  pub in_the_rest : (before after : List Thing) (one other : Thing) → IsIn other (before ++ one ∷ after)
      → (other ≡ one → ⊥) → IsIn other (before ++ after)
  in_the_rest [] after one other (inl same) differs = absurd (differs same)
  in_the_rest [] after one other (inr is) differs = is
  in_the_rest (first ∷ before) after one other (inl same) differs = inl same
  in_the_rest (first ∷ before) after one other (inr is) differs = inr (in_the_rest before after one other is differs)

  pub in_the_whole : (before after : List Thing) (one other : Thing) → IsIn other (before ++ after) → IsIn other (before ++ one ∷ after)
  in_the_whole before after one other is = elim (in-append before after other is) [
    | inl left ↦ append-left before (one ∷ after) other left
    | inr right ↦ append-right before (one ∷ after) other (inr right)
  ]

  pub rest-distinct : (before after : List Thing) (one : Thing) → AreDistinct (before ++ one ∷ after) → AreDistinct (before ++ after)
  rest-distinct [] after one distinct = distinct.1
  rest-distinct (first ∷ before) after one distinct =
      (λ is. distinct.0 (in_the_whole before after one first is), rest-distinct before after one distinct.1)

  pub one-is_out : (before after : List Thing) (one : Thing) → AreDistinct (before ++ one ∷ after) → IsIn one (before ++ after) → ⊥
  one-is_out [] after one distinct is = distinct.0 is
  one-is_out (first ∷ before) after one distinct (inl same) = distinct.0 (append-right before (one ∷ after) first (inl (sym same)))
  one-is_out (first ∷ before) after one distinct (inr is) = one-is_out before after one distinct.1 is

module _ (memory : Memory) (settings : Settings) where
  pub page_numbers-parts : (before after : List TableUse) (one : TableUse)
      → page_numbers memory settings (before ++ one ∷ after)
      ≡ page_number memory settings one + page_numbers memory settings (before ++ after)
  page_numbers-parts before after one =
      let whole = page_numbers-append memory settings before (one ∷ after) in
      let rest = page_numbers-append memory settings before after in
      omega arith

  pub same_sum : (some other : List TableUse) → AreDistinct some → AreDistinct other
      → ((x : TableUse) → IsIn x some → IsIn x other) → ((x : TableUse) → IsIn x other → IsIn x some)
      → page_numbers memory settings some ≡ page_numbers memory settings other
  same_sum [] [] distinct distinct' to back = refl
  same_sum [] (one ∷ other) distinct distinct' to back = absurd (back one (inl refl))
  same_sum (one ∷ some) other distinct distinct' to back =
      let parts = parts_at one other (to one (inl refl)) in
      let there : AreDistinct (parts.before ++ one ∷ parts.after) = subst (λ (it : List TableUse). AreDistinct it) parts.is distinct' in
      let rest = same_sum some (parts.before ++ parts.after) distinct.1 (rest-distinct parts.before parts.after one there)
      (λ x is. in_the_rest parts.before parts.after one x (subst (λ (it : List TableUse). IsIn x it) parts.is (to x (inr is)))
      (λ same. distinct.0 (subst (λ (it : TableUse). IsIn it some) same is)))
      (λ x is. elim (back x (subst (λ (it : List TableUse). IsIn x it) (sym parts.is) (in_the_whole parts.before parts.after one x is))) [
        | inl same ↦ absurd (one-is_out parts.before parts.after one there (subst (λ (it : TableUse). IsIn it (parts.before ++ parts.after)) same is))
        | inr left ↦ left
      ]) in
      ap (λ (n : ℕ). page_number memory settings one + n) rest
      ∙ (sym (page_numbers-parts parts.before parts.after one) ∙ ap (page_numbers memory settings) (sym parts.is))
