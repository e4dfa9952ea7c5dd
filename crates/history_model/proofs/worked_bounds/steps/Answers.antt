-- By the bounds of what an event builds, updates or audits.
use Rattle.std.proofs.Common.{◌≡◌, ℕ, zero, suc, ◌+◌, ◌*◌, ◌-◌, ◌≤◌, List, [], ◌∷◌, length, Some, refl, inl, inr, sym, ap, ◌∙◌, subst, arith}
use Rattle.std.proofs.lemmas.Option.{same_Some}
use Rattle.paging_model.specs.Counting.{AtLeast, IsIn}
use Rattle.paging_model.specs.Entries.{entry_of, is_reserved}
use Rattle.paging_model.specs.Memory.{Memory, entry_at}
use Rattle.paging_model.specs.TableUses.{IsUse, at_root, below}
use Rattle.paging_model.specs.LinearAddress.{index}
use Rattle.paging_model.specs.WorkedExamples.{all}
use Rattle.paging_model.specs.declared.registers.RegChange.TheVariants as change
use Rattle.paging_model.specs.WorkedSpaces.{small_settings}
use Rattle.paging_model.specs.declared.spaces.SpaceKey.{SpaceKey}
use Rattle.paging_model.specs.declared.spaces.TableUse.{TableUse}
use Rattle.history_model.specs.Bounds.{BuildMayTake, UpdateMayTake, UpdatesMayTake, AuditMayTake, IsTable}
use Rattle.history_model.specs.History.{begun, next, memory, visited_pcids}
use Rattle.history_model.specs.Horizons.{space}
use Rattle.history_model.specs.KeptSpaces.{AreKept, WithinIn, listed_first, IsTouched, IsWrittenEntry}
use Rattle.history_model.specs.WorkedHistories.{small_start}
use Rattle.history_model.specs.WorkedKeptSpaces.{space_at, use_at, list_of_one}
use Rattle.history_model.specs.WorkedBounds.{AreFew, empty_table_start, list_of_empty_table, first_reference}
use Rattle.history_model.specs.declared.events.Event.TheVariants as event
use Rattle.history_model.proofs.ListedThings.{at_least}
use Rattle.history_model.proofs.EmptyRoots.{IsNothing, within_limits, not_too_large, unknown_entry, unknown_after}
use Rattle.history_model.proofs.UnknownTables.{one, one_alone}
use Rattle.history_model.proofs.SmallUses.{top_use, lower_use, touched_use, written_entry}
use Rattle.history_model.proofs.worked_bounds.steps.Goals as goal

-- numbers that ascend in the lists below
by_level : TableUse → ℕ
by_level table = 5 - table.level

by_frame : ℕ × ℕ → ℕ
by_frame table = table.1

by_slot : TableUse × ℕ → ℕ
by_slot entry = entry.1

-- a space whose top table isn't known has one use
build_of_root : BuildMayTake (next list_of_one (event.Set 0 (change.Cr3 0x9000))) (space_at 0x9000) 512
unfolding by_level
build_of_root = record {
  uses = 1;
  are_uses = at_least (IsUse (memory list_of_one) small_settings 0x9000) by_level (use_at 4 0 0x9000 ∷ []) 1 (top_use (memory list_of_one) 0x9000, tt) refl (omega arith);
  few = omega arith;
  bound = omega arith;
}

other_space : IsIn (space_at 0x9000) (space_at 0x8000 ∷ []) → ⊥
other_space (inl e) = absurd (omega (arith, ap (λ (key : SpaceKey). key.root) e))
other_space (inr e) = e

build : BuildMayTake (begun small_start) (space_at 0x1000) 2048
unfolding by_level entry_of is_reserved entry_at
build = record {
  uses = 4;
  are_uses = at_least (IsUse (memory (begun small_start)) small_settings 0x1000) by_level (use_at 4 0x0 0x1000 ∷ use_at 3 0x0 0x2000 ∷ use_at 2 0x0 0x3000 ∷ use_at 1 0x0 0x4000 ∷ []) 4 (
    top_use (memory (begun small_start)) 0x1000,
    (
      lower_use (memory (begun small_start)) 0x1000 (use_at 3 0x0 0x2000) refl (below at_root refl),
      (
        lower_use (memory (begun small_start)) 0x1000 (use_at 2 0x0 0x3000) refl (below (below at_root refl) refl),
        (
          lower_use (memory (begun small_start)) 0x1000 (use_at 1 0x0 0x4000) refl (below (below (below at_root refl) refl) refl),
          tt,
        ),
      ),
    ),
  ) refl (omega arith);
  few = omega arith;
  bound = omega arith;
}

audit : (cpu : ℕ) → space (begun small_start) cpu ≡ Some (space_at 0x1000) → length (visited_pcids (begun small_start) cpu) ≡ 1
    → AuditMayTake (begun small_start) cpu 5120
unfolding by_frame entry_of is_reserved entry_at
audit cpu is_space one_pcid = record {
  key = space_at 0x1000;
  is_space = is_space;
  tables = 4;
  are_tables = at_least (IsTable (begun small_start) (space_at 0x1000)) by_frame ((4, 0x1000) ∷ (3, 0x2000) ∷ (2, 0x3000) ∷ (1, 0x4000) ∷ []) 4 (
    record { at = use_at 4 0x0 0x1000; use_is = top_use (memory (begun small_start)) 0x1000; level = refl; frame = refl },
    (
      record { at = use_at 3 0x0 0x2000; use_is = lower_use (memory (begun small_start)) 0x1000 (use_at 3 0x0 0x2000) refl (below at_root refl); level = refl; frame = refl },
      (
        record { at = use_at 2 0x0 0x3000; use_is = lower_use (memory (begun small_start)) 0x1000 (use_at 2 0x0 0x3000) refl (below (below at_root refl) refl); level = refl; frame = refl },
        (
          record { at = use_at 1 0x0 0x4000; use_is = lower_use (memory (begun small_start)) 0x1000 (use_at 1 0x0 0x4000) refl (below (below (below at_root refl) refl) refl); level = refl; frame = refl },
          tt,
        ),
      ),
    ),
  ) refl (omega arith);
  bound = rw one_pcid (omega arith);
}

audit_no_more : (cpu steps : ℕ) → space (begun small_start) cpu ≡ Some (space_at 0x1000) → length (visited_pcids (begun small_start) cpu) ≡ 1
    → AreFew 4 (IsTable (begun small_start) (space_at 0x1000)) → AuditMayTake (begun small_start) cpu steps → steps ≤ 5120
audit_no_more cpu steps is_space one_pcid few audit =
    let same : audit.key ≡ space_at 0x1000 = same_Some audit.key (space_at 0x1000) (sym audit.is_space ∙ is_space) in
    let most = few audit.tables (subst (λ one. AtLeast audit.tables (IsTable (begun small_start) one)) same audit.are_tables) in
    let bound : steps ≤ 1024 * (audit.tables + 1 * 1) = rw one_pcid at audit.bound in
    omega arith

build_no_more : (steps : ℕ) (key : SpaceKey) → Some (space_at 0x1000) ≡ Some key → AreFew 4 (IsUse (memory (begun small_start)) small_settings 0x1000)
    → BuildMayTake (begun small_start) key steps → steps ≤ 2048
build_no_more steps key is_space few build =
    let same : key ≡ space_at 0x1000 = same_Some key (space_at 0x1000) (sym is_space) in
    let most = few build.uses (subst (λ (one : SpaceKey). AtLeast build.uses (IsUse (memory (begun small_start)) one.settings one.root)) same build.are_uses) in
    omega (arith, build.bound)

updates_none : (keys : List SpaceKey) (memory : Memory) (at n updates : ℕ) → keys ≡ [] → UpdatesMayTake memory at n keys updates → updates ≡ 0
updates_none keys memory at n updates none may = subst (λ keys. UpdatesMayTake memory at n keys updates) none may

update : UpdateMayTake (memory (next list_of_empty_table first_reference)) (space_at 0x1000) 0x1000 8 513
unfolding by_level by_slot entry_of is_reserved entry_at
update = record {
  touched = 1;
  entries = 1;
  are_touched = at_least (IsTouched (memory (next list_of_empty_table first_reference)) (space_at 0x1000) 0x1000 8) by_level (use_at 3 0x0 0x8000 ∷ []) 1
      (touched_use (memory (next list_of_empty_table first_reference)) 0x1000 0x1000 8 4 0x1000 all (use_at 3 0x0 0x8000) refl (below at_root refl) at_root refl refl, tt) refl (omega arith);
  are_entries = at_least (IsWrittenEntry (memory (next list_of_empty_table first_reference)) (space_at 0x1000) 0x1000 8) by_slot ((use_at 4 0x0 0x1000, 0x1000) ∷ []) 1
      (written_entry (memory (next list_of_empty_table first_reference)) 0x1000 0x1000 8 (use_at 4 0x0 0x1000) 0x1000 (top_use (memory (next list_of_empty_table first_reference)) 0x1000) refl refl, tt) refl (omega arith);
  bound = omega arith;
}

update_no_more : (steps : ℕ) → AreFew 1 (IsTouched (memory (next list_of_empty_table first_reference)) (space_at 0x1000) 0x1000 8) → AreFew 1 (IsWrittenEntry (memory (next list_of_empty_table first_reference)) (space_at 0x1000) 0x1000 8)
    → UpdateMayTake (memory (next list_of_empty_table first_reference)) (space_at 0x1000) 0x1000 8 steps → steps ≤ 513
update_no_more steps few_touched few_entries update =
    let uses = few_touched update.touched update.are_touched in
    let slots = few_entries update.entries update.are_entries in
    omega (arith, update.bound)

-- nothing is in the table: its first entry is zero, and the others are unknown
entry_of_index : (index : ℕ) → IsNothing (entry_at (memory (begun empty_table_start)) (0x1000 + 8 * index))
unfolding entry_at
entry_of_index zero = inr refl
entry_of_index (suc index) =
    unknown_entry (memory (begun empty_table_start)) (0x1000 + 8 * suc index)
    (unknown_after empty_table_start.extents (0x1000 + 8 * suc index) (omega arith, tt))

empty_is_within : WithinIn (memory (begun empty_table_start)) (space_at 0x1000)
empty_is_within = within_limits (memory (begun empty_table_start)) small_settings 0x1000 (λ level x. entry_of_index (index level x))

kept_empty : AreKept list_of_empty_table (space_at 0x1000 ∷ [])
kept_empty = (_, refl, inr (empty_is_within, refl))

empty_alone : (keys : List SpaceKey) → AreKept list_of_empty_table keys → keys ≡ space_at 0x1000 ∷ []
empty_alone keys kept =
    elim kept.2 [
      | inl large ↦ absurd (not_too_large (memory (begun empty_table_start)) small_settings 0x1000 (λ level x. entry_of_index (index level x)) large.0)
      | inr within ↦ within.1 ∙ ap (listed_first (space_at 0x1000)) kept.1
    ]

pub returns : goal.returns
returns c = record {
  list = ([], space_at 0x1000, refl, refl, inr (λ is_in. is_in, build));
  list_no_more = λ steps few may. elim may.4 [
    | inl again ↦ omega (arith, again.1)
    | inr built ↦ build_no_more steps may.1 may.3 few built.1
  ];
  list_again = (_, space_at 0x8000, one, refl, inl (inl refl, refl));
  list_again_no_more = λ may. elim may.4 [
    | inl again ↦ omega (arith, again.1)
    | inr built ↦ absurd (built.0 (subst (λ keys. IsIn may.1 keys) (sym (one_alone may.0 may.2)) (inl (same_Some may.1 (space_at 0x8000) (sym may.3)))))
  ];
  other_list = (_, space_at 0x9000, (_, one, refl), refl, inr (other_space, build_of_root));
  write = ([], 0, refl, refl, omega arith);
  write_no_more = λ may. let none = updates_none may.0 _ 0x4004 8 may.1 may.2 may.3 in omega (arith, may.4);
  reference = (_, 513, kept_empty, (513, 0, update, refl, refl), omega arith);
  reference_no_more = λ steps few_touched few_entries may.
      let updates : UpdatesMayTake (memory (next list_of_empty_table first_reference)) 0x1000 8 (space_at 0x1000 ∷ []) may.1 =
      subst (λ keys. UpdatesMayTake (memory (next list_of_empty_table first_reference)) 0x1000 8 keys may.1) (empty_alone may.0 may.2) may.3 in
      let one = update_no_more updates.0 few_touched few_entries updates.2 in
      omega (arith, may.4, updates.3, updates.4);
  point = (5120, 5120, audit 0 refl refl, (5120, 0, audit 1 refl refl, refl, refl), refl);
  point_no_more = λ steps few may.
      let first = audit_no_more 0 may.0 refl refl few may.2 in
      let second = audit_no_more 1 may.3.0 refl refl few may.3.2 in
      omega (arith, may.4, may.3.3, may.3.4);
  no_processor = refl;
  no_processor_no_more = λ may. omega (arith, may);
  machine = record { five = omega arith; not_six = λ may. omega (arith, may) };
  cpu = record { five = omega arith; not_six = λ may. omega (arith, may) };
  set = record { five = omega arith; not_six = λ may. omega (arith, may) };
  invlpg = record { five = omega arith; not_six = λ may. omega (arith, may) };
  invpcid = record { five = omega arith; not_six = λ may. omega (arith, may) };
  ask = record { five = omega arith; not_six = λ may. omega (arith, may) };
}
