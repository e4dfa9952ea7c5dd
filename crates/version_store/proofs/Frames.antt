-- The changes of one frame among those of the others: one more change, and the number of blocks then.
use Rattle.std.proofs.Common.{◌≡◌, ℕ, ◌+◌, List, [], ◌∷◌, ◌++◌, Option, Some, None, option_map, refl, sym, ap, ◌∙◌, arith, Ordering, Less, Equal, Greater}
use Rattle.std.proofs.lemmas.Cmp.{nat_cmp_total}
use Rattle.std.proofs.lemmas.Map.{lookup-none}
use Rattle.std.proofs.lemmas.Map.Entries.{none_below_head, sum_by-set_value, sum_by-insert_entry}
use Rattle.std.proofs.lemmas.Map.Keys.{sorted_tail}
use Rattle.std.specs.Borrow.{Bor}
use Rattle.std.specs.BTreeMap.{insert_entry, is_at}
use Rattle.std.specs.List.Sorted.{IsStrictlySortedBy}
use Rattle.std.specs.Map.{keys_of, lookup, set_value}
use Rattle.std.specs.Ordering.{match_ordering, nat_cmp, is_eq}
use Rattle.std.specs.Prelude.{cond, option_copied, unwrap_or}
use Rattle.version_store.specs.Changes.{KeptChanges, changes_of, blocks_for, kept_blocks}
use Rattle.version_store.specs.declared.change.Change.{Change}

-- a value that is found, written back as another, is inserted
set_value-found : (kept : KeptChanges) (frame : ℕ) (old new : List Change) → IsStrictlySortedBy nat_cmp (keys_of kept) → lookup (is_at (nat_cmp frame)) kept ≡ Some old
    → set_value (is_at (nat_cmp frame)) kept new ≡ insert_entry nat_cmp kept frame new
set_value-found [] frame old new sorted found = absurd (cc)
set_value-found (one ∷ rest) frame old new sorted found = by_order (nat_cmp frame one.0) refl (set_value-found rest frame old new (sorted_tail nat_cmp one.0 (keys_of rest) sorted)) found
  where
    by_order : (order : Ordering) → nat_cmp frame one.0 ≡ order → (lookup (is_at (nat_cmp frame)) rest ≡ Some old → set_value (is_at (nat_cmp frame)) rest new ≡ insert_entry nat_cmp rest frame new)
        → cond (is_eq order) (Some one.1) (lookup (is_at (nat_cmp frame)) rest) ≡ Some old
        → cond (is_eq order) ((one.0, new) ∷ rest) (one ∷ set_value (is_at (nat_cmp frame)) rest new) ≡ match_ordering order ((frame, new) ∷ one ∷ rest) ((one.0, new) ∷ rest) (one ∷ insert_entry nat_cmp rest frame new)
    by_order Less is later here =
        let none : lookup (is_at (nat_cmp frame)) (one ∷ rest) ≡ None = lookup-none (is_at (nat_cmp frame)) (one ∷ rest) (none_below_head nat_cmp_total frame one rest sorted is) in
        absurd (cc)
    by_order Equal is later here = refl
    by_order Greater is later here = ap (λ more. one ∷ more) (later here)

-- a change more of a frame that has some
pub noted_in : (kept : KeptChanges) (frame : ℕ) (old new : List Change) (one : Change) → IsStrictlySortedBy nat_cmp (keys_of kept) → lookup (is_at (nat_cmp frame)) kept ≡ Some old → new ≡ old ++ one ∷ []
    → set_value (is_at (nat_cmp frame)) kept new ≡ insert_entry nat_cmp kept frame (changes_of kept frame ++ one ∷ [])
noted_in kept frame old new one sorted found is =
    set_value-found kept frame old new sorted found
    ∙ ap (insert_entry nat_cmp kept frame) (is ∙ ap (λ (changes : Option (List Change)). unwrap_or changes [] ++ one ∷ []) (sym found))

-- blocks where the changes of a frame are replaced
pub kept_blocks-set : (kept : KeptChanges) (frame more : ℕ) (old new : List Change) → lookup (is_at (nat_cmp frame)) kept ≡ Some old → blocks_for new ≡ blocks_for old + more
    → kept_blocks (set_value (is_at (nat_cmp frame)) kept new) ≡ kept_blocks kept + more
kept_blocks-set kept frame more old new found is =
    let sums = sum_by-set_value blocks_for (is_at (nat_cmp frame)) kept old new found in
    omega (arith, sums)

pub counts-set : (kept : KeptChanges) (frame before live : ℕ) (old new : List Change) → lookup (is_at (nat_cmp frame)) kept ≡ Some old → live + blocks_for old ≡ before + blocks_for new
    → live + kept_blocks kept ≡ before + kept_blocks (set_value (is_at (nat_cmp frame)) kept new)
counts-set kept frame before live old new found is =
    let sums = sum_by-set_value blocks_for (is_at (nat_cmp frame)) kept old new found in
    omega (arith, sums)

-- blocks with the changes of a frame that had none
pub kept_blocks-insert : (kept : KeptChanges) (frame : ℕ) (new : List Change) → IsStrictlySortedBy nat_cmp (keys_of kept) → lookup (is_at (nat_cmp frame)) kept ≡ None
    → kept_blocks (insert_entry nat_cmp kept frame new) ≡ kept_blocks kept + blocks_for new
kept_blocks-insert kept frame new sorted none =
    let sums = sum_by-insert_entry blocks_for nat_cmp_total kept frame new sorted in
    let zero : unwrap_or (option_map blocks_for (lookup (is_at (nat_cmp frame)) kept)) 0 ≡ 0 = ap (λ found. unwrap_or (option_map blocks_for found) 0) none in
    omega (arith, sums, zero)

-- the changes that a look-up borrows, or others that are none
pub lent-or_none : (kept : KeptChanges) (frame : ℕ) (lent : Option (Bor (List Change))) (none one : Bor (List Change)) → option_copied lent ≡ lookup (is_at (nat_cmp frame)) kept → none.now ≡ [] → one ≡ unwrap_or lent none
    → one.now ≡ changes_of kept frame
lent-or_none kept frame None none one found is chosen = ap (λ (b : Bor (List Change)). b.now) chosen ∙ (is ∙ ap (λ (changes : Option (List Change)). unwrap_or changes []) found)
lent-or_none kept frame (Some b) none one found is chosen = ap (λ (b : Bor (List Change)). b.now) chosen ∙ ap (λ (changes : Option (List Change)). unwrap_or changes []) found
