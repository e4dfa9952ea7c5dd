-- What a write leaves of memory and its past, and why it is refused.
use Rattle.std.proofs.Common.{◌≡◌, ℕ, ◌≤◌, ◌+◌, ◌-◌, ◌%◌, Bool, true, false, List, length, Option, Some, None, refl, sym, ap, ◌∙◌, arith}
use Rattle.std.specs.Prelude.{nat_lt}
use Rattle.std.proofs.lemmas.Bool.Decides.{nat_tests}
use Rattle.history_model.specs.KeptSpaces.{slots_written}
use Rattle.history_model.specs.Refusals.{first_unknown}
use Rattle.history_model.specs.declared.faults.StepFault.TheVariants as fault
use Rattle.block_pool.specs.Blocks.{Counts}
use Rattle.phys_view.specs.Seen.{Seen, memory_of}
use Rattle.phys_view.specs.Writes.{WritesBytes, refusal_of_write}
use Rattle.phys_view.proofs.Refusing.{refused-crosses}
use Rattle.version_store.specs.Changes.{with_changes}
use Rattle.version_store.specs.WrittenChanges.{entries_from, first_slot, touched_entries}
use Rattle.audit_core.specs.Remembering.{KeepsWrite, Remembering}

-- a write that isn't refused stays in its page
pub within-page : (seen : Seen) (at n : ℕ) → refusal_of_write seen at n ≡ None → at % 4096 + n ≤ 4096
within-page seen at n unrefused = by_known (first_unknown (memory_of seen) at n) refl
  where
    by_end : (crosses : Bool) → nat_lt 4096 (at % 4096 + n) ≡ crosses → first_unknown (memory_of seen) at n ≡ None
        → at % 4096 + n ≤ 4096
    by_end true is known =
        let never = sym (refused-crosses seen at n known (grind (arith, nat_tests))) ∙ unrefused in
        absurd cc
    by_end false is known = grind (arith, nat_tests)

    by_known : (first : Option ℕ) → first_unknown (memory_of seen) at n ≡ first → at % 4096 + n ≤ 4096
    by_known (Some a) is =
        let refused : refusal_of_write seen at n ≡ Some (fault.Unknown a) = rw is refl in
        let never = sym refused ∙ unrefused in
        absurd cc
    by_known None is = by_end (nat_lt 4096 (at % 4096 + n)) refl is

first_slot-is : (at : ℕ) → at - at % 8 ≡ first_slot at
first_slot-is at = omega arith

-- what its slots held, as it was read before it, is kept
pub keeps_write : (old new : Remembering) (before after : Counts) (now at : ℕ) (bytes : List ℕ) (olds : List (Option ℕ))
    → WritesBytes old.seen new.seen before after at bytes
    → olds ≡ entries_from (memory_of old.seen) (first_slot at) (length olds)
    → (at % 4096 + length bytes ≤ 4096 → length olds ≡ slots_written at (length bytes))
    → new.kept ≡ with_changes old.kept (at - at % 8) olds now → KeepsWrite old new now at bytes
keeps_write old new before after now at bytes olds writes read all kept = record {
  before = before;
  after = after;
  writes = writes;
  keeps =
      let held : olds ≡ touched_entries (memory_of old.seen) at (length bytes) =
      read ∙ ap (entries_from (memory_of old.seen) (first_slot at)) (all (within-page old.seen at (length bytes) writes.unrefused)) in
      kept
      ∙ ap (λ (slot : ℕ). with_changes old.kept slot olds now) (first_slot-is at)
      ∙ ap (λ (entries : List (Option ℕ)). with_changes old.kept (first_slot at) entries now) held;
}
