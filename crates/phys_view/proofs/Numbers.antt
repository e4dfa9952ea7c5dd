-- The number in bytes that are all known, and in bytes of which one is unknown.
use Rattle.std.proofs.Common.{◌≡◌, ℕ, zero, suc, ◌+◌, ◌-◌, ◌*◌, ◌<◌, List, length, take, drop, set, Option, Some, None, option_and_then, refl, sym, ◌∙◌, ap, arith}
use Rattle.std.proofs.Math.Seq.{take-length}
use Rattle.std.proofs.lemmas.List.{get_or-drop, get_or-set_other, length-drop}
use Rattle.std.proofs.lemmas.Grind.{get_or-set_at}
use Rattle.std.specs.Prelude.{slice_index}
use Rattle.byteorder.specs.Endian.{little_from, little_number}
use Rattle.paging_model.specs.Memory.{Memory, number_at, entry_at}
use Rattle.phys_view.specs.Ranges.{StandAt}

number_at-from : (memory : Memory) (bytes : List ℕ) (n a i : ℕ) → ((k p q : ℕ) → k < n → p ≡ a + k → q ≡ i + k → memory p ≡ Some (slice_index bytes q)) → number_at memory n a ≡ Some (little_from i n bytes)
number_at-from memory bytes zero a i known = refl
number_at-from memory bytes (suc n) a i known =
    let first = known 0 a i (omega arith) (omega arith) (omega arith) in
    let later = number_at-from memory bytes n (a + 1) (suc i) (λ k p q h e f. known (suc k) p q (omega arith) (omega arith) (omega arith)) in
    rw (first, later) refl

none_then : (r : Option ℕ) → option_and_then {U = ℕ} (λ low. None) r ≡ None
none_then None = refl
none_then (Some low) = refl

number_at-none : (memory : Memory) (n a k p : ℕ) → k < n → p ≡ a + k → memory p ≡ None → number_at memory n a ≡ None
number_at-none memory zero a k p h e unknown = absurd (omega arith)
number_at-none memory (suc n) a zero p h e unknown =
    let here : p ≡ a = omega arith in
    let first : memory a ≡ None = rw here at unknown in
    rw first refl
number_at-none memory (suc n) a (suc k) p h e unknown =
    let later = number_at-none memory n (a + 1) k p (omega arith) (omega arith) unknown in
    rw later (none_then (memory a))

pub entry_at-known : (memory : Memory) (a : ℕ) (bytes : List ℕ) → ((k : ℕ) → k < 8 → memory (a + k) ≡ Some (slice_index bytes k)) → entry_at memory a ≡ Some (little_number 8 bytes)
unfolding entry_at
entry_at-known memory a bytes known =
    number_at-from memory bytes 8 a 0 (λ k p q h e f. let same : q ≡ k = omega arith in rw (e, same) (known k h))

pub entry_at-unknown : (memory : Memory) (a k : ℕ) → k < 8 → memory (a + k) ≡ None → entry_at memory a ≡ None
unfolding entry_at
entry_at-unknown memory a k h unknown =
    let same : a + k ≡ a + k = refl in
    number_at-none memory 8 a k (a + k) h same unknown

-- bytes that are set one after the other
pub known-set : (memory : Memory) (bytes : List ℕ) (a i v : ℕ) → i < length bytes → ((k : ℕ) → k < i → memory (a + k) ≡ Some (slice_index bytes k)) → memory (a + i) ≡ Some v → (k : ℕ) → k < i + 1 → memory (a + k) ≡ Some (slice_index (set bytes i v) k)
known-set memory bytes a i v within known here k h = grind (arith, get_or-set_at, get_or-set_other)

-- the number at a place among others, whose bytes are cut from theirs
pub entry_among : (memory : Memory) (a n k : ℕ) (bytes : List ℕ) → StandAt memory a (8 * n) bytes → k < n
    → entry_at memory (a + 8 * k) ≡ Some (little_number 8 (take (length bytes - 8 * k) (drop (8 * k) bytes)))
entry_among memory a n k bytes stand within =
    let all : take (length bytes - 8 * k) (drop (8 * k) bytes) ≡ drop (8 * k) bytes =
    rw (sym (length-drop (8 * k) bytes)) (take-length (drop (8 * k) bytes)) in
    entry_at-known memory (a + 8 * k) (take (length bytes - 8 * k) (drop (8 * k) bytes)) (λ j h.
    let place : a + 8 * k + j ≡ a + (8 * k + j) = omega arith in
    rw (place, all) (stand.each (8 * k + j) (omega arith) ∙ ap Some (sym (get_or-drop (8 * k) bytes j 0))))
