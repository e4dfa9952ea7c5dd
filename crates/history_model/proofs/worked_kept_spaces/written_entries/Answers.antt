-- Each use is reached entry by entry from the root; the others are no entries, or no uses.
use Rattle.std.proofs.Common.{List, [], ◌∷◌, refl, inl, inr, arith}
use Rattle.paging_model.specs.Entries.{entry_of, is_reserved, root_bits}
use Rattle.paging_model.specs.Memory.{entry_at}
use Rattle.paging_model.specs.TableUses.{at_root, below}
use Rattle.history_model.specs.WorkedKeptSpaces.{no_reference, self_reference, two_halves, space_at, use_at}
use Rattle.history_model.proofs.ReachedTables.{Reached, not_used}
use Rattle.history_model.proofs.SmallUses.{top_use, lower_use, written_entry}
use Rattle.history_model.proofs.worked_kept_spaces.written_entries.Goals as goal

tables : List Reached
tables = (4, 0x1000, root_bits) ∷ (3, 0x2000, root_bits) ∷ (2, 0x3000, root_bits) ∷ []

pub returns : goal.returns
unfolding entry_of is_reserved entry_at tables
returns c = record {
  first = written_entry two_halves 0x1000 0x4004 8 (use_at 1 0 0x4000) 0x4000 (lower_use two_halves 0x1000 (use_at 1 0 0x4000) refl (below (below (below at_root refl) refl) refl)) refl refl;
  second = written_entry two_halves 0x1000 0x4004 8 (use_at 1 0 0x4000) 0x4008 (lower_use two_halves 0x1000 (use_at 1 0 0x4000) refl (below (below (below at_root refl) refl) refl)) refl refl;
  none_before = λ entry. omega (arith, entry.slot.ends);
  none_after = λ entry. omega (arith, entry.slot.begins);
  other_table = λ entry. omega (arith, entry.frame);
  root = written_entry self_reference 0x1000 0x1800 8 (use_at 4 0 0x1000) 0x1800 (top_use self_reference 0x1000) refl refl;
  last = written_entry self_reference 0x1000 0x1800 8 (use_at 1 0xffff804020000000 0x1000) 0x1800 (lower_use self_reference 0x1000 (use_at 1 0xffff804020000000 0x1000) refl (below (below (below at_root refl) refl) refl)) refl refl;
  no_use = λ entry.
      not_used no_reference (space_at 0x1000) (use_at 1 0 0x4000) tables (inl refl) (inr (inl refl), (inr (inr (inl refl)), (tt, tt)))
      (λ e. omega arith, (λ e. omega arith, (λ e. omega arith, tt))) entry.use_is;
}
