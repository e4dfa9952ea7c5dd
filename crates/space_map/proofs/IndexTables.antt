-- The tables of an index.
use Rattle.std.proofs.Common.{◌≡◌, ℕ, inl, inr, List, [], ◌∷◌, length, refl, sym, ap, ◌∙◌, arith}
use Rattle.paging_model.specs.Counting.{IsIn, AreDistinct}
use Rattle.paging_model.specs.declared.spaces.TableUse.{TableUse}
use Rattle.frame_index.specs.CountedUses.{HaveOwnPlaces, IsAt, NoneAt}
use Rattle.frame_index.specs.declared.counted_use.CountedUse.{CountedUse}
use Rattle.space_map.specs.PatchWalks.{index_tables}

pub table-in : (index : List CountedUse) (one : CountedUse) → IsIn one index → IsIn one.table (index_tables index)
table-in [] one is = absurd is
table-in (first ∷ rest) one (inl same) = inl (ap (λ (it : CountedUse). it.table) same)
table-in (first ∷ rest) one (inr is) = inr (table-in rest one is)

pub use-of_table : (index : List CountedUse) (table : TableUse) → IsIn table (index_tables index) → (one : CountedUse) × IsIn one index × (one.table ≡ table)
use-of_table [] table is = absurd is
use-of_table (first ∷ rest) table (inl same) = (first, inl refl, sym same)
use-of_table (first ∷ rest) table (inr is) = let later = use-of_table rest table is in (later.0, inr later.1, later.2)

none-in : (level prefix : ℕ) (index : List CountedUse) → NoneAt level prefix index → (one : CountedUse) → IsIn one index → IsAt level prefix one → ⊥
none-in level prefix [] none one is at = absurd is
none-in level prefix (first ∷ rest) none one (inl same) at =
    none.0 (ap (λ (it : CountedUse). it.table.level) (sym same) ∙ at.0, ap (λ (it : CountedUse). it.table.prefix) (sym same) ∙ at.1)
none-in level prefix (first ∷ rest) none one (inr is) at = none-in level prefix rest none.1 one is at

-- places of their own make the tables distinct
pub tables-distinct : (index : List CountedUse) → HaveOwnPlaces index → AreDistinct (index_tables index)
tables-distinct [] own = tt
tables-distinct (one ∷ rest) own = (
  λ is.
      let other = use-of_table rest one.table is in
      none-in one.table.level one.table.prefix rest own.0 other.0 other.1
      (ap (λ (it : TableUse). it.level) other.2, ap (λ (it : TableUse). it.prefix) other.2),
  tables-distinct rest own.1,
)

-- and one place has one use
pub one-at : (index : List CountedUse) → HaveOwnPlaces index → (one other : CountedUse) → IsIn one index → IsIn other index
    → one.table.level ≡ other.table.level → one.table.prefix ≡ other.table.prefix → one ≡ other
one-at [] own one other is is' level prefix = absurd is
one-at (first ∷ rest) own one other (inl same) (inl same') level prefix = same ∙ sym same'
one-at (first ∷ rest) own one other (inl same) (inr is') level prefix =
    absurd (none-in first.table.level first.table.prefix rest own.0 other is'
    (sym level ∙ ap (λ (it : CountedUse). it.table.level) same, sym prefix ∙ ap (λ (it : CountedUse). it.table.prefix) same))
one-at (first ∷ rest) own one other (inr is) (inl same') level prefix =
    absurd (none-in first.table.level first.table.prefix rest own.0 one is
    (level ∙ ap (λ (it : CountedUse). it.table.level) same', prefix ∙ ap (λ (it : CountedUse). it.table.prefix) same'))
one-at (first ∷ rest) own one other (inr is) (inr is') level prefix = one-at rest own.1 one other is is' level prefix

pub tables-many : (index : List CountedUse) → length (index_tables index) ≡ length index
tables-many [] = refl
tables-many (one ∷ rest) = omega (arith, tables-many rest)
