-- Each use is reached entry by entry from the root; the law holds by the fields of the bound.
use Rattle.std.proofs.Common.{ℕ, ◌+◌, ◌*◌, ◌-◌, [], ◌∷◌, refl, arith}
use Rattle.paging_model.specs.Entries.{entry_of, is_reserved}
use Rattle.paging_model.specs.Memory.{entry_at}
use Rattle.paging_model.specs.TableUses.{at_root, below}
use Rattle.paging_model.specs.WorkedExamples.{small_memory, all, with_entry}
use Rattle.paging_model.specs.declared.spaces.TableUse.{TableUse}
use Rattle.history_model.specs.Bounds.{UpdateMayTake}
use Rattle.history_model.specs.KeptSpaces.{IsTouched, IsWrittenEntry}
use Rattle.history_model.specs.WorkedKeptSpaces.{space_at, use_at, self_reference, second_reference, no_reference, two_halves}
use Rattle.history_model.specs.WorkedBounds.{third_page, third_page_alone}
use Rattle.history_model.proofs.ListedThings.{at_least}
use Rattle.history_model.proofs.SmallUses.{top_use, lower_use, touched_use, written_entry}
use Rattle.history_model.proofs.worked_bounds.updates.Goals as goal

-- numbers that ascend in the lists below
by_prefix : TableUse → ℕ
by_prefix table = table.prefix * 8 + (5 - table.level)

by_slot : TableUse × ℕ → ℕ
by_slot entry = (entry.0.prefix * 8 + (5 - entry.0.level)) * 65536 + entry.1

by_second_reference : UpdateMayTake second_reference (space_at 0x1000) 0x3008 8 513
unfolding by_prefix by_slot entry_of is_reserved entry_at
by_second_reference = record {
  touched = 1;
  entries = 1;
  are_touched = at_least (IsTouched second_reference (space_at 0x1000) 0x3008 8) by_prefix (use_at 1 0x200000 0x4000 ∷ []) 1
      (touched_use second_reference 0x1000 0x3008 8 2 0x3000 all (use_at 1 0x200000 0x4000) refl (below (below (below at_root refl) refl) refl) (below (below at_root refl) refl) refl refl, tt) refl (omega arith);
  are_entries = at_least (IsWrittenEntry second_reference (space_at 0x1000) 0x3008 8) by_slot ((use_at 2 0x0 0x3000, 0x3008) ∷ []) 1
      (written_entry second_reference 0x1000 0x3008 8 (use_at 2 0x0 0x3000) 0x3008 (lower_use second_reference 0x1000 (use_at 2 0x0 0x3000) refl (below (below at_root refl) refl)) refl refl, tt) refl (omega arith);
  bound = omega arith;
}

of_two_references : UpdateMayTake third_page (space_at 0x1000) 0x4010 8 2
unfolding by_prefix by_slot entry_of is_reserved entry_at
of_two_references = record {
  touched = 0;
  entries = 2;
  are_touched = at_least (IsTouched third_page (space_at 0x1000) 0x4010 8) by_prefix ([]) 0
      tt refl (omega arith);
  are_entries = at_least (IsWrittenEntry third_page (space_at 0x1000) 0x4010 8) by_slot ((use_at 1 0x0 0x4000, 0x4010) ∷ (use_at 1 0x200000 0x4000, 0x4010) ∷ []) 2
      (written_entry third_page 0x1000 0x4010 8 (use_at 1 0x0 0x4000) 0x4010 (lower_use third_page 0x1000 (use_at 1 0x0 0x4000) refl (below (below (below at_root refl) refl) refl)) refl refl, (written_entry third_page 0x1000 0x4010 8 (use_at 1 0x200000 0x4000) 0x4010 (lower_use third_page 0x1000 (use_at 1 0x200000 0x4000) refl (below (below (below at_root refl) refl) refl)) refl refl, tt)) refl (omega arith);
  bound = omega arith;
}

without_reference : UpdateMayTake no_reference (space_at 0x1000) 0x3000 8 1
unfolding by_prefix by_slot entry_of is_reserved entry_at
without_reference = record {
  touched = 0;
  entries = 1;
  are_touched = at_least (IsTouched no_reference (space_at 0x1000) 0x3000 8) by_prefix ([]) 0
      tt refl (omega arith);
  are_entries = at_least (IsWrittenEntry no_reference (space_at 0x1000) 0x3000 8) by_slot ((use_at 2 0x0 0x3000, 0x3000) ∷ []) 1
      (written_entry no_reference 0x1000 0x3000 8 (use_at 2 0x0 0x3000) 0x3000 (lower_use no_reference 0x1000 (use_at 2 0x0 0x3000) refl (below (below at_root refl) refl)) refl refl, tt) refl (omega arith);
  bound = omega arith;
}

by_reference : UpdateMayTake small_memory (space_at 0x1000) 0x3000 8 513
unfolding by_prefix by_slot entry_of is_reserved entry_at
by_reference = record {
  touched = 1;
  entries = 1;
  are_touched = at_least (IsTouched small_memory (space_at 0x1000) 0x3000 8) by_prefix (use_at 1 0x0 0x4000 ∷ []) 1
      (touched_use small_memory 0x1000 0x3000 8 2 0x3000 all (use_at 1 0x0 0x4000) refl (below (below (below at_root refl) refl) refl) (below (below at_root refl) refl) refl refl, tt) refl (omega arith);
  are_entries = at_least (IsWrittenEntry small_memory (space_at 0x1000) 0x3000 8) by_slot ((use_at 2 0x0 0x3000, 0x3000) ∷ []) 1
      (written_entry small_memory 0x1000 0x3000 8 (use_at 2 0x0 0x3000) 0x3000 (lower_use small_memory 0x1000 (use_at 2 0x0 0x3000) refl (below (below at_root refl) refl)) refl refl, tt) refl (omega arith);
  bound = omega arith;
}

two_slots : UpdateMayTake two_halves (space_at 0x1000) 0x4004 8 2
unfolding by_prefix by_slot entry_of is_reserved entry_at
two_slots = record {
  touched = 0;
  entries = 2;
  are_touched = at_least (IsTouched two_halves (space_at 0x1000) 0x4004 8) by_prefix ([]) 0
      tt refl (omega arith);
  are_entries = at_least (IsWrittenEntry two_halves (space_at 0x1000) 0x4004 8) by_slot ((use_at 1 0x0 0x4000, 0x4000) ∷ (use_at 1 0x0 0x4000, 0x4008) ∷ []) 2
      (written_entry two_halves 0x1000 0x4004 8 (use_at 1 0x0 0x4000) 0x4000 (lower_use two_halves 0x1000 (use_at 1 0x0 0x4000) refl (below (below (below at_root refl) refl) refl)) refl refl, (written_entry two_halves 0x1000 0x4004 8 (use_at 1 0x0 0x4000) 0x4008 (lower_use two_halves 0x1000 (use_at 1 0x0 0x4000) refl (below (below (below at_root refl) refl) refl)) refl refl, tt)) refl (omega arith);
  bound = omega arith;
}

by_self_reference : UpdateMayTake self_reference (space_at 0x1000) 0x1800 8 3076
unfolding by_prefix by_slot entry_of is_reserved entry_at
by_self_reference = record {
  touched = 6;
  entries = 4;
  are_touched = at_least (IsTouched self_reference (space_at 0x1000) 0x1800 8) by_prefix (use_at 3 0xffff800000000000 0x1000 ∷ use_at 2 0xffff800000000000 0x2000 ∷ use_at 1 0xffff800000000000 0x3000 ∷ use_at 2 0xffff804000000000 0x1000 ∷ use_at 1 0xffff804000000000 0x2000 ∷ use_at 1 0xffff804020000000 0x1000 ∷ []) 6
      (touched_use self_reference 0x1000 0x1800 8 4 0x1000 all (use_at 3 0xffff800000000000 0x1000) refl (below at_root refl) at_root refl refl, (touched_use self_reference 0x1000 0x1800 8 4 0x1000 all (use_at 2 0xffff800000000000 0x2000) refl (below (below at_root refl) refl) at_root refl refl, (touched_use self_reference 0x1000 0x1800 8 4 0x1000 all (use_at 1 0xffff800000000000 0x3000) refl (below (below (below at_root refl) refl) refl) at_root refl refl, (touched_use self_reference 0x1000 0x1800 8 4 0x1000 all (use_at 2 0xffff804000000000 0x1000) refl (below (below at_root refl) refl) at_root refl refl, (touched_use self_reference 0x1000 0x1800 8 4 0x1000 all (use_at 1 0xffff804000000000 0x2000) refl (below (below (below at_root refl) refl) refl) at_root refl refl, (touched_use self_reference 0x1000 0x1800 8 4 0x1000 all (use_at 1 0xffff804020000000 0x1000) refl (below (below (below at_root refl) refl) refl) at_root refl refl, tt)))))) refl (omega arith);
  are_entries = at_least (IsWrittenEntry self_reference (space_at 0x1000) 0x1800 8) by_slot ((use_at 4 0x0 0x1000, 0x1800) ∷ (use_at 3 0xffff800000000000 0x1000, 0x1800) ∷ (use_at 2 0xffff804000000000 0x1000, 0x1800) ∷ (use_at 1 0xffff804020000000 0x1000, 0x1800) ∷ []) 4
      (written_entry self_reference 0x1000 0x1800 8 (use_at 4 0x0 0x1000) 0x1800 (top_use self_reference 0x1000) refl refl, (written_entry self_reference 0x1000 0x1800 8 (use_at 3 0xffff800000000000 0x1000) 0x1800 (lower_use self_reference 0x1000 (use_at 3 0xffff800000000000 0x1000) refl (below at_root refl)) refl refl, (written_entry self_reference 0x1000 0x1800 8 (use_at 2 0xffff804000000000 0x1000) 0x1800 (lower_use self_reference 0x1000 (use_at 2 0xffff804000000000 0x1000) refl (below (below at_root refl) refl)) refl refl, (written_entry self_reference 0x1000 0x1800 8 (use_at 1 0xffff804020000000 0x1000) 0x1800 (lower_use self_reference 0x1000 (use_at 1 0xffff804020000000 0x1000) refl (below (below (below at_root refl) refl) refl)) refl refl, tt)))) refl (omega arith);
  bound = omega arith;
}

of_self_reference : UpdateMayTake (with_entry 0x3008 0x4007 self_reference) (space_at 0x1000) 0x3008 8 514
unfolding by_prefix by_slot entry_of is_reserved entry_at
of_self_reference = record {
  touched = 1;
  entries = 2;
  are_touched = at_least (IsTouched (with_entry 0x3008 0x4007 self_reference) (space_at 0x1000) 0x3008 8) by_prefix (use_at 1 0x200000 0x4000 ∷ []) 1
      (touched_use (with_entry 0x3008 0x4007 self_reference) 0x1000 0x3008 8 2 0x3000 all (use_at 1 0x200000 0x4000) refl (below (below (below at_root refl) refl) refl) (below (below at_root refl) refl) refl refl, tt) refl (omega arith);
  are_entries = at_least (IsWrittenEntry (with_entry 0x3008 0x4007 self_reference) (space_at 0x1000) 0x3008 8) by_slot ((use_at 2 0x0 0x3000, 0x3008) ∷ (use_at 1 0xffff800000000000 0x3000, 0x3008) ∷ []) 2
      (written_entry (with_entry 0x3008 0x4007 self_reference) 0x1000 0x3008 8 (use_at 2 0x0 0x3000) 0x3008 (lower_use (with_entry 0x3008 0x4007 self_reference) 0x1000 (use_at 2 0x0 0x3000) refl (below (below at_root refl) refl)) refl refl, (written_entry (with_entry 0x3008 0x4007 self_reference) 0x1000 0x3008 8 (use_at 1 0xffff800000000000 0x3000) 0x3008 (lower_use (with_entry 0x3008 0x4007 self_reference) 0x1000 (use_at 1 0xffff800000000000 0x3000) refl (below (below (below at_root refl) refl) refl)) refl refl, tt)) refl (omega arith);
  bound = omega arith;
}

of_the_lower_root : UpdateMayTake third_page_alone (space_at 0x2000) 0x4004 8 1028
unfolding by_prefix by_slot entry_of is_reserved entry_at
of_the_lower_root = record {
  touched = 2;
  entries = 4;
  are_touched = at_least (IsTouched third_page_alone (space_at 0x2000) 0x4004 8) by_prefix (use_at 1 0x0 0x5000 ∷ use_at 1 0x40000000 0x5000 ∷ []) 2
      (touched_use third_page_alone 0x2000 0x4004 8 2 0x4000 all (use_at 1 0x0 0x5000) refl (below (below (below at_root refl) refl) refl) (below (below at_root refl) refl) refl refl, (touched_use third_page_alone 0x2000 0x4004 8 2 0x4000 all (use_at 1 0x40000000 0x5000) refl (below (below (below at_root refl) refl) refl) (below (below at_root refl) refl) refl refl, tt)) refl (omega arith);
  are_entries = at_least (IsWrittenEntry third_page_alone (space_at 0x2000) 0x4004 8) by_slot ((use_at 2 0x0 0x4000, 0x4000) ∷ (use_at 2 0x0 0x4000, 0x4008) ∷ (use_at 2 0x40000000 0x4000, 0x4000) ∷ (use_at 2 0x40000000 0x4000, 0x4008) ∷ []) 4
      (written_entry third_page_alone 0x2000 0x4004 8 (use_at 2 0x0 0x4000) 0x4000 (lower_use third_page_alone 0x2000 (use_at 2 0x0 0x4000) refl (below (below at_root refl) refl)) refl refl, (written_entry third_page_alone 0x2000 0x4004 8 (use_at 2 0x0 0x4000) 0x4008 (lower_use third_page_alone 0x2000 (use_at 2 0x0 0x4000) refl (below (below at_root refl) refl)) refl refl, (written_entry third_page_alone 0x2000 0x4004 8 (use_at 2 0x40000000 0x4000) 0x4000 (lower_use third_page_alone 0x2000 (use_at 2 0x40000000 0x4000) refl (below (below at_root refl) refl)) refl refl, (written_entry third_page_alone 0x2000 0x4004 8 (use_at 2 0x40000000 0x4000) 0x4008 (lower_use third_page_alone 0x2000 (use_at 2 0x40000000 0x4000) refl (below (below at_root refl) refl)) refl refl, tt)))) refl (omega arith);
  bound = omega arith;
}

of_the_upper_root : UpdateMayTake third_page_alone (space_at 0x1000) 0x4004 8 4
unfolding by_prefix by_slot entry_of is_reserved entry_at
of_the_upper_root = record {
  touched = 0;
  entries = 4;
  are_touched = at_least (IsTouched third_page_alone (space_at 0x1000) 0x4004 8) by_prefix ([]) 0
      tt refl (omega arith);
  are_entries = at_least (IsWrittenEntry third_page_alone (space_at 0x1000) 0x4004 8) by_slot ((use_at 1 0x0 0x4000, 0x4000) ∷ (use_at 1 0x0 0x4000, 0x4008) ∷ (use_at 1 0x200000 0x4000, 0x4000) ∷ (use_at 1 0x200000 0x4000, 0x4008) ∷ []) 4
      (written_entry third_page_alone 0x1000 0x4004 8 (use_at 1 0x0 0x4000) 0x4000 (lower_use third_page_alone 0x1000 (use_at 1 0x0 0x4000) refl (below (below (below at_root refl) refl) refl)) refl refl, (written_entry third_page_alone 0x1000 0x4004 8 (use_at 1 0x0 0x4000) 0x4008 (lower_use third_page_alone 0x1000 (use_at 1 0x0 0x4000) refl (below (below (below at_root refl) refl) refl)) refl refl, (written_entry third_page_alone 0x1000 0x4004 8 (use_at 1 0x200000 0x4000) 0x4000 (lower_use third_page_alone 0x1000 (use_at 1 0x200000 0x4000) refl (below (below (below at_root refl) refl) refl)) refl refl, (written_entry third_page_alone 0x1000 0x4004 8 (use_at 1 0x200000 0x4000) 0x4008 (lower_use third_page_alone 0x1000 (use_at 1 0x200000 0x4000) refl (below (below (below at_root refl) refl) refl)) refl refl, tt)))) refl (omega arith);
  bound = omega arith;
}

pub returns : goal.returns
returns c = record {
  by_second_reference = by_second_reference;
  of_two_references = of_two_references;
  without_reference = without_reference;
  by_reference = by_reference;
  two_slots = two_slots;
  by_self_reference = by_self_reference;
  of_self_reference = of_self_reference;
  two_spaces = (_, _, of_the_lower_root, (_, _, of_the_upper_root, refl, refl), refl);
  no_more = λ memory key at n touched entries steps few_touched few_entries update.
      let uses = few_touched update.touched update.are_touched in
      let slots = few_entries update.entries update.are_entries in
      omega (arith, update.bound);
}
