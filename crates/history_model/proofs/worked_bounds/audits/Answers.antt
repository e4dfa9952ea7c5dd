-- Each table has a use that is reached entry by entry from the root; the laws hold by the fields of the bound and of a table.
use Rattle.std.proofs.Common.{◌≡◌, ℕ, ◌+◌, ◌*◌, ◌-◌, [], ◌∷◌, refl, sym, ◌∙◌, subst, arith}
use Rattle.std.proofs.lemmas.Option.{same_Some}
use Rattle.paging_model.specs.Counting.{AtLeast}
use Rattle.paging_model.specs.Entries.{entry_of, is_reserved}
use Rattle.paging_model.specs.Memory.{entry_at}
use Rattle.paging_model.specs.TableUses.{at_root, below}
use Rattle.history_model.specs.Bounds.{AuditMayTake, IsTable}
use Rattle.history_model.specs.History.{begun, memory}
use Rattle.history_model.specs.WorkedHistories.{small_start, three_pcids}
use Rattle.history_model.specs.WorkedHorizons.{one_root}
use Rattle.history_model.specs.WorkedKeptSpaces.{space_at, use_at}
use Rattle.history_model.specs.WorkedBounds.{referencing_start}
use Rattle.history_model.proofs.ListedThings.{at_least}
use Rattle.history_model.proofs.SmallUses.{top_use, lower_use}
use Rattle.history_model.proofs.worked_bounds.audits.Goals as goal

-- numbers that ascend in the lists below
by_frame : ℕ × ℕ → ℕ
by_frame table = (5 - table.0) * 65536 + table.1

four_tables : AuditMayTake (begun small_start) 0 5120
unfolding by_frame entry_of is_reserved entry_at
four_tables = record {
  key = space_at 0x1000;
  is_space = refl;
  tables = 4;
  are_tables = at_least (IsTable (begun small_start) (space_at 0x1000)) by_frame ((4, 0x1000) ∷ (3, 0x2000) ∷ (2, 0x3000) ∷ (1, 0x4000) ∷ []) 4 (
    record { at = use_at 4 0x0 0x1000; use_is = top_use (memory (begun small_start)) 0x1000; level = refl; frame = refl },
    (
      record { at = use_at 3 0x0 0x2000; use_is = lower_use (memory (begun small_start)) 0x1000 (use_at 3 0x0 0x2000) refl (below at_root refl); level = refl; frame = refl },
      (
        record { at = use_at 2 0x0 0x3000; use_is = lower_use (memory (begun small_start)) 0x1000 (use_at 2 0x0 0x3000) refl (below (below at_root refl) refl); level = refl; frame = refl },
        (
          record { at = use_at 1 0x0 0x4000; use_is = lower_use (memory (begun small_start)) 0x1000 (use_at 1 0x0 0x4000) refl (below (below (below at_root refl) refl) refl); level = refl; frame = refl },
          tt,
        ),
      ),
    ),
  ) refl (omega arith);
  bound = omega arith;
}

three_of_one_root : AuditMayTake one_root 0 13312
unfolding by_frame entry_of is_reserved entry_at
three_of_one_root = record {
  key = space_at 0x1000;
  is_space = refl;
  tables = 4;
  are_tables = at_least (IsTable one_root (space_at 0x1000)) by_frame ((4, 0x1000) ∷ (3, 0x2000) ∷ (2, 0x3000) ∷ (1, 0x4000) ∷ []) 4 (
    record { at = use_at 4 0x0 0x1000; use_is = top_use (memory one_root) 0x1000; level = refl; frame = refl },
    (
      record { at = use_at 3 0x0 0x2000; use_is = lower_use (memory one_root) 0x1000 (use_at 3 0x0 0x2000) refl (below at_root refl); level = refl; frame = refl },
      (
        record { at = use_at 2 0x0 0x3000; use_is = lower_use (memory one_root) 0x1000 (use_at 2 0x0 0x3000) refl (below (below at_root refl) refl); level = refl; frame = refl },
        (
          record { at = use_at 1 0x0 0x4000; use_is = lower_use (memory one_root) 0x1000 (use_at 1 0x0 0x4000) refl (below (below (below at_root refl) refl) refl); level = refl; frame = refl },
          tt,
        ),
      ),
    ),
  ) refl (omega arith);
  bound = omega arith;
}

one_table : AuditMayTake three_pcids 0 10240
unfolding by_frame entry_of is_reserved entry_at
one_table = record {
  key = space_at 0x8000;
  is_space = refl;
  tables = 1;
  are_tables = at_least (IsTable three_pcids (space_at 0x8000)) by_frame ((4, 0x8000) ∷ []) 1 (
    record { at = use_at 4 0x0 0x8000; use_is = top_use (memory three_pcids) 0x8000; level = refl; frame = refl },
    tt,
  ) refl (omega arith);
  bound = omega arith;
}

ten_tables : AuditMayTake (begun referencing_start) 0 11264
unfolding by_frame entry_of is_reserved entry_at
ten_tables = record {
  key = space_at 0x1000;
  is_space = refl;
  tables = 10;
  are_tables = at_least (IsTable (begun referencing_start) (space_at 0x1000)) by_frame ((4, 0x1000) ∷ (3, 0x1000) ∷ (3, 0x2000) ∷ (2, 0x1000) ∷ (2, 0x2000) ∷ (2, 0x3000) ∷ (1, 0x1000) ∷ (1, 0x2000) ∷ (1, 0x3000) ∷ (1, 0x4000) ∷ []) 10 (
    record { at = use_at 4 0x0 0x1000; use_is = top_use (memory (begun referencing_start)) 0x1000; level = refl; frame = refl },
    (
      record { at = use_at 3 0xffff800000000000 0x1000; use_is = lower_use (memory (begun referencing_start)) 0x1000 (use_at 3 0xffff800000000000 0x1000) refl (below at_root refl); level = refl; frame = refl },
      (
        record { at = use_at 3 0x0 0x2000; use_is = lower_use (memory (begun referencing_start)) 0x1000 (use_at 3 0x0 0x2000) refl (below at_root refl); level = refl; frame = refl },
        (
          record { at = use_at 2 0xffff804000000000 0x1000; use_is = lower_use (memory (begun referencing_start)) 0x1000 (use_at 2 0xffff804000000000 0x1000) refl (below (below at_root refl) refl); level = refl; frame = refl },
          (
            record { at = use_at 2 0xffff800000000000 0x2000; use_is = lower_use (memory (begun referencing_start)) 0x1000 (use_at 2 0xffff800000000000 0x2000) refl (below (below at_root refl) refl); level = refl; frame = refl },
            (
              record { at = use_at 2 0x0 0x3000; use_is = lower_use (memory (begun referencing_start)) 0x1000 (use_at 2 0x0 0x3000) refl (below (below at_root refl) refl); level = refl; frame = refl },
              (
                record { at = use_at 1 0xffff804020000000 0x1000; use_is = lower_use (memory (begun referencing_start)) 0x1000 (use_at 1 0xffff804020000000 0x1000) refl (below (below (below at_root refl) refl) refl); level = refl; frame = refl },
                (
                  record { at = use_at 1 0xffff804000000000 0x2000; use_is = lower_use (memory (begun referencing_start)) 0x1000 (use_at 1 0xffff804000000000 0x2000) refl (below (below (below at_root refl) refl) refl); level = refl; frame = refl },
                  (
                    record { at = use_at 1 0xffff800000000000 0x3000; use_is = lower_use (memory (begun referencing_start)) 0x1000 (use_at 1 0xffff800000000000 0x3000) refl (below (below (below at_root refl) refl) refl); level = refl; frame = refl },
                    (
                      record { at = use_at 1 0x0 0x4000; use_is = lower_use (memory (begun referencing_start)) 0x1000 (use_at 1 0x0 0x4000) refl (below (below (below at_root refl) refl) refl); level = refl; frame = refl },
                      tt,
                    ),
                  ),
                ),
              ),
            ),
          ),
        ),
      ),
    ),
  ) refl (omega arith);
  bound = omega arith;
}

pub returns : goal.returns
returns c = record {
  four_tables = four_tables;
  three_of_one_root = three_of_one_root;
  one_table = one_table;
  ten_tables = ten_tables;
  no_more = λ history cpu tables steps key is_space few audit.
      let same : audit.key ≡ key = same_Some audit.key key (sym audit.is_space ∙ is_space) in
      let most = few audit.tables (subst (λ one. AtLeast audit.tables (IsTable history one)) same audit.are_tables) in
      omega (arith, audit.bound);
  of_a_use = λ history key table is_use. record { at = table; use_is = is_use; level = refl; frame = refl };
  of_uses_alone = λ history key level frame table. (table.at.prefix, table.at.bits, rw (← table.level, ← table.frame) table.use_is);
}
