-- How many blocks kept changes stand in.
use Rattle.std.proofs.Common.{◌≡◌, ◌+◌, ◌/◌, ◌≤◌, List, [], ◌∷◌, length, true, arith}
use Rattle.std.proofs.lemmas.Bool.Decides.{nat_tests}
use Rattle.std.proofs.lemmas.List.Sums.{sum_by-cons}
use Rattle.std.specs.Map.{values_of}
use Rattle.std.specs.Prelude.{nat_lt, if◌then◌else◌}
use Rattle.version_store.specs.Changes.{KeptChanges, blocks_for, kept_blocks, change_count, frame_count}
use Rattle.version_store.specs.declared.change.Change.{Change}

-- the blocks of one frame
one-few : (changes : List Change) → blocks_for changes ≤ length changes / 256 + (if nat_lt 0 (length changes) then 1 else 0)
one-few [] = omega arith
one-few (one ∷ rest) =
    let some : nat_lt 0 (length (one ∷ rest)) ≡ true = grind (arith, nat_tests) in
    rw some (omega arith)

pub blocks-few : (kept : KeptChanges) → kept_blocks kept ≤ change_count kept / 256 + frame_count kept
blocks-few [] = omega arith
blocks-few (one ∷ rest) =
    let more = blocks-few rest in
    let few = one-few one.1 in
    let blocks = sum_by-cons blocks_for one.1 (values_of rest) in
    let changes = sum_by-cons (λ (changes : List Change). length changes) one.1 (values_of rest) in
    let frames = sum_by-cons (λ (changes : List Change). if nat_lt 0 (length changes) then 1 else 0) one.1 (values_of rest) in
    omega (arith, more, few, blocks, changes, frames)
