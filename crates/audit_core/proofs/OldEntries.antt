-- What was read of slots one after another is what they hold.
use Rattle.std.proofs.Common.{◌≡◌, ◌≢◌, ℕ, ◌<◌, ◌≤◌, ◌+◌, ◌*◌, inl, inr, List, length, get_or, set, take, Option, None, ap, ◌∙◌, arith}
use Rattle.std.proofs.lemmas.List.{get_or-set_other, get_or-set_same, get_or-take, length-take-le}
use Rattle.paging_model.specs.Memory.{Memory, entry_at}
use Rattle.version_store.specs.WrittenChanges.{entries_from}
use Rattle.version_store.proofs.ChangeLaws.{entries-read}
use Rattle.audit_core.proofs.NotingLaws.{same_or_not}

-- the first so many of them hold what was read
pub record AreRead (memory : Memory) (first count : ℕ) (entries : List (Option ℕ)) : Type 0 where
  pub each : (i : ℕ) → i < count → get_or entries i None ≡ entry_at memory (first + 8 * i)

pub read-so : (memory : Memory) (first count : ℕ) (entries : List (Option ℕ)) → count ≤ length entries
    → AreRead memory first count entries → take count entries ≡ entries_from memory first count
read-so memory first count entries room read =
    entries-read memory first (take count entries)
    (λ i below. get_or-take count entries i None (omega (arith, below, length-take-le count entries room))
    ∙ read.each i (omega (arith, below, length-take-le count entries room)))
    ∙ ap (entries_from memory first) (length-take-le count entries room)

-- one more is read
pub read-more : (memory : Memory) (first count : ℕ) (entries : List (Option ℕ)) (one : Option ℕ) → count < length entries
    → AreRead memory first count entries → one ≡ entry_at memory (first + 8 * count)
    → AreRead memory first (count + 1) (set entries count one)
read-more memory first count entries one room read is = record {
  each = λ i below. elim (same_or_not i count) [
    | inl here ↦ rw (here, get_or-set_same entries count one None room) is
    | inr apart ↦ rw (get_or-set_other entries count i one None apart) (read.each i (before i below apart))
  ];
}
  where
    before : (i : ℕ) → i < count + 1 → i ≢ count → i < count
    before i below apart = omega (arith, below, apart)
