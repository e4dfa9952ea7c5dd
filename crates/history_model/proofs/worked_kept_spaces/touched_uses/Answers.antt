-- Each touched use is reached entry by entry from the root, and of the others no table above them has a written entry.
use Rattle.std.proofs.Common.{ℕ, List, [], ◌∷◌, refl, inl, inr, arith}
use Rattle.paging_model.specs.Entries.{entry_of, is_reserved, root_bits}
use Rattle.paging_model.specs.Memory.{Memory, entry_at}
use Rattle.paging_model.specs.TableUses.{at_root, below}
use Rattle.paging_model.specs.WorkedExamples.{small_memory, all}
use Rattle.paging_model.specs.WorkedSpaces.{small_settings}
use Rattle.history_model.specs.KeptSpaces.{IsTouched}
use Rattle.history_model.specs.WorkedKeptSpaces.{self_reference, second_reference, no_reference, two_halves, space_at, use_at}
use Rattle.history_model.proofs.ReachedTables.{Reached, AreSpared, HasAllBelow, not_touched, not_used}
use Rattle.history_model.proofs.SmallUses.{touched_use}
use Rattle.history_model.proofs.worked_kept_spaces.touched_uses.Goals as goal

-- the walk of address 0
tables : List Reached
tables = (4, 0x1000, root_bits) ∷ (3, 0x2000, root_bits) ∷ (2, 0x3000, root_bits) ∷ (1, 0x4000, root_bits) ∷ []

-- it ends at the third level
upper_tables : List Reached
upper_tables = (4, 0x1000, root_bits) ∷ (3, 0x2000, root_bits) ∷ (2, 0x3000, root_bits) ∷ []

-- of the tables of address 0, none above this level has a written entry
spared : (memory : Memory) (at level frame : ℕ) → HasAllBelow memory small_settings 0x1000 0 tables tables
    → AreSpared at 8 0 level tables → IsTouched memory (space_at 0x1000) at 8 (use_at level 0 frame) → ⊥
unfolding tables
spared memory at level frame all = not_touched memory (space_at 0x1000) at 8 (use_at level 0 frame) tables (inl refl) all

pub returns : goal.returns
unfolding entry_of is_reserved entry_at tables upper_tables
returns c = record {
  by_two_levels = touched_use self_reference 0x1000 0x1800 8 4 0x1000 all (use_at 1 0xffff804020000000 0x1000) refl (below (below (below at_root refl) refl) refl) at_root refl refl;
  by_the_top = touched_use self_reference 0x1000 0x1800 8 4 0x1000 all (use_at 1 0xffff800000000000 0x3000) refl (below (below (below at_root refl) refl) refl) at_root refl refl;
  other_half =
      spared self_reference 0x1800 1 0x4000 (inr (inl refl), (inr (inr (inl refl)), (inr (inr (inr (inl refl))), (tt, tt))))
      (λ above written. omega arith, (λ above written. omega arith, (λ above written. omega arith, (λ above written. omega arith, tt))));
  root =
      spared self_reference 0x1800 4 0x1000 (inr (inl refl), (inr (inr (inl refl)), (inr (inr (inr (inl refl))), (tt, tt))))
      (λ above written. omega arith, (λ above written. omega arith, (λ above written. omega arith, (λ above written. omega arith, tt))));
  root_of_its_entry =
      spared small_memory 0x1000 4 0x1000 (inr (inl refl), (inr (inr (inl refl)), (inr (inr (inr (inl refl))), (tt, tt))))
      (λ above written. omega arith, (λ above written. omega arith, (λ above written. omega arith, (λ above written. omega arith, tt))));
  other_reference = touched_use second_reference 0x1000 0x3008 8 2 0x3000 all (use_at 1 0x200000 0x4000) refl (below (below (below at_root refl) refl) refl) (below (below at_root refl) refl) refl refl;
  first_reference =
      spared second_reference 0x3008 1 0x4000 (inr (inl refl), (inr (inr (inl refl)), (inr (inr (inr (inl refl))), (tt, tt))))
      (λ above written. omega arith, (λ above written. omega arith, (λ above written. omega arith, (λ above written. omega arith, tt))));
  no_longer = λ touched.
      not_used no_reference (space_at 0x1000) (use_at 1 0 0x4000) upper_tables (inl refl) (inr (inl refl), (inr (inr (inl refl)), (tt, tt)))
      (λ e. omega arith, (λ e. omega arith, (λ e. omega arith, tt))) touched.use_is;
  again = touched_use small_memory 0x1000 0x3000 8 2 0x3000 all (use_at 1 0 0x4000) refl (below (below (below at_root refl) refl) refl) (below (below at_root refl) refl) refl refl;
  own_entries =
      spared two_halves 0x4004 1 0x4000 (inr (inl refl), (inr (inr (inl refl)), (inr (inr (inr (inl refl))), (tt, tt))))
      (λ above written. omega arith, (λ above written. omega arith, (λ above written. omega arith, (λ above written. omega arith, tt))));
}
