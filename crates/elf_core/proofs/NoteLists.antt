-- The notes of a segment are the first one and those of the bytes after it.
use Rattle.std.proofs.Common.{◌≡◌, ℕ, zero, suc, ◌<◌, ◌≤◌, List, [], ◌∷◌, length, drop, Option, Some, None, refl, ap, arith, length-drop, inl, inr}
use Rattle.std.proofs.lemmas.Option.{cond_some}
use Rattle.std.proofs.lemmas.Bool.{cases_lt, lt-ltb, le-ltb}
use Rattle.std.specs.Int.{next_multiple_of}
use Rattle.elf_core.specs.Notes.{NoteParts, is_whole, note_parts, description_end, first_note, note_before, first_notes, all_notes}

-- the next note begins after the fields of this one
rest_shorter : (bytes : List ℕ) (note : NoteParts) (rest : List ℕ) → 12 ≤ length bytes → first_note bytes ≡ Some (note, rest) → length rest < length bytes
unfolding first_note
rest_shorter bytes note rest long h =
    let found = cond_some (is_whole bytes) (note_parts bytes, drop (next_multiple_of (description_end bytes) 4) bytes) (note, rest) h in
    let rest_is : drop (next_multiple_of (description_end bytes) 4) bytes ≡ rest = ap (λ (pair : NoteParts × List ℕ). pair.1) found.1 in
    rw (← rest_is) (omega (arith, length-drop (next_multiple_of (description_end bytes) 4) bytes))

same_after : (f g : List ℕ → List (Option NoteParts)) (first : Option (NoteParts × List ℕ)) → ((note : NoteParts) (rest : List ℕ) → first ≡ Some (note, rest) → f rest ≡ g rest) → note_before f first ≡ note_before g first
same_after f g None same = refl
same_after f g (Some found) same = ap (λ others. Some found.0 ∷ others) (same found.0 found.1 refl)

-- as many notes as there are bytes are all
enough : (n m : ℕ) (bytes : List ℕ) → length bytes ≤ n → length bytes ≤ m → first_notes n bytes ≡ first_notes m bytes
unfolding first_notes
enough zero zero bytes hn hm = refl
enough zero (suc m) bytes hn hm = rw (lt-ltb (length bytes) 12 (omega arith)) refl
enough (suc n) zero bytes hn hm = rw (lt-ltb (length bytes) 12 (omega arith)) refl
enough (suc n) (suc m) bytes hn hm =
    elim (cases_lt (length bytes) 12) [
      | inl short ↦ rw (lt-ltb (length bytes) 12 short) refl
      | inr long ↦ rw (le-ltb (length bytes) 12 long) (same_after (first_notes n) (first_notes m) (first_note bytes) (λ note rest found. let shorter = rest_shorter bytes note rest long found in enough n m rest (omega arith) (omega arith)))
    ]

pub all_notes-short : (bytes : List ℕ) → length bytes < 12 → all_notes bytes ≡ []
unfolding all_notes first_notes
all_notes-short [] h = refl
all_notes-short (b ∷ bytes) h = rw (lt-ltb (length (b ∷ bytes)) 12 h) refl

after_all : (bytes : List ℕ) (n : ℕ) → 12 ≤ length bytes → length bytes ≡ suc n → first_notes (suc n) bytes ≡ note_before all_notes (first_note bytes)
unfolding all_notes first_notes
after_all bytes n long len = rw (le-ltb (length bytes) 12 long) (same_after (first_notes n) all_notes (first_note bytes) (λ note rest found. let shorter = rest_shorter bytes note rest long found in enough n (length rest) rest (omega arith) (omega arith)))

pub all_notes-long : (bytes : List ℕ) → 12 ≤ length bytes → all_notes bytes ≡ note_before all_notes (first_note bytes)
unfolding all_notes
all_notes-long [] h = absurd (omega arith)
all_notes-long (b ∷ bytes) h = after_all (b ∷ bytes) (length bytes) h refl
