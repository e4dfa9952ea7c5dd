-- The records of changes in blocks: what a written record leaves of the others, and the changes that stand in blocks.
use Rattle.std.proofs.Common.{◌≡◌, ◌≢◌, ℕ, zero, suc, ◌+◌, ◌-◌, ◌*◌, ◌/◌, ◌%◌, ◌<◌, ◌≤◌, ◌⊎◌, inl, inr, List, [], ◌∷◌, ◌++◌, length, take, drop, set, get_or, refl, sym, ap, ◌∙◌, add-one, arith}
use Rattle.std.proofs.Math.Seq.{get_or-append_right}
use Rattle.std.proofs.lemmas.Bool.{cases_eq, cases_lt}
use Rattle.std.proofs.lemmas.List.{get_or_append_left, get_or-take, get_or-drop, get_or-set_other, get_or-set_same, length-append, length-take}
use Rattle.std.specs.Prelude.{slice_index, slice_index_or}
use Rattle.block_pool.specs.Blocks.{block_with}
use Rattle.byteorder.specs.Endian.{little_from, little_number}
use Rattle.version_store.specs.Changes.{blocks_for}
use Rattle.version_store.specs.Records.{change_from, change_at, changes_in, IsFilledTo}
use Rattle.version_store.specs.declared.change.Change.{Change}

little_from-alike : (i n : ℕ) (xs ys : List ℕ) → ((k : ℕ) → i ≤ k → k < i + n → slice_index xs k ≡ slice_index ys k) → little_from i n xs ≡ little_from i n ys
little_from-alike i zero xs ys same = refl
little_from-alike i (suc n) xs ys same =
    let byte : slice_index xs i ≡ slice_index ys i = same i (omega arith) (omega arith) in
    let rest : little_from (suc i) n xs ≡ little_from (suc i) n ys = little_from-alike (suc i) n xs ys (λ k from to. same k (omega arith) (omega arith)) in
    rw (byte, rest) refl

number-alike : (at n : ℕ) (xs ys : List ℕ) → ((k : ℕ) → at ≤ k → k < at + n → slice_index xs k ≡ slice_index ys k) → little_number n (drop at xs) ≡ little_number n (drop at ys)
number-alike at n xs ys same =
    little_from-alike 0 n (drop at xs) (drop at ys)
    (λ k from to. get_or-drop at xs k 0 ∙ (same (at + k) (omega arith) (omega arith) ∙ sym (get_or-drop at ys k 0)))

-- a change is known from the 16 bytes of its record
change_from-alike : (xs ys : List ℕ) → ((k : ℕ) → k < 16 → slice_index xs k ≡ slice_index ys k) → change_from xs ≡ change_from ys
change_from-alike xs ys same =
    let offset : little_number 2 xs ≡ little_number 2 ys = little_from-alike 0 2 xs ys (λ k from to. same k (omega arith)) in
    let time : little_number 4 (drop 4 xs) ≡ little_number 4 (drop 4 ys) = number-alike 4 4 xs ys (λ k from to. same k (omega arith)) in
    let old : little_number 8 (drop 8 xs) ≡ little_number 8 (drop 8 ys) = number-alike 8 8 xs ys (λ k from to. same k (omega arith)) in
    ap (λ (n : ℕ). record { offset = n; time = little_number 4 (drop 4 xs); old = little_number 8 (drop 8 xs) }) offset
    ∙ (ap (λ (n : ℕ). record { offset = little_number 2 ys; time = n; old = little_number 8 (drop 8 xs) }) time
    ∙ ap (λ (n : ℕ). record { offset = little_number 2 ys; time = little_number 4 (drop 4 ys); old = n }) old)

-- a byte of a block after a record was put into it
taken : (old : List ℕ) (at : ℕ) → at ≤ length old → length (take at old) ≡ at
taken old at within = grind (arith, length-take)

sized : (old : List ℕ) (at : ℕ) (new : List ℕ) → at ≤ length old → length (take at old ++ new) ≡ at + length new
sized old at new within = length-append (take at old) new ∙ ap (λ n. n + length new) (taken old at within)

byte-before : (old : List ℕ) (at : ℕ) (new : List ℕ) (k : ℕ) → at ≤ length old → k < at → slice_index (block_with old at new) k ≡ slice_index old k
byte-before old at new k within before =
    get_or_append_left (take at old ++ new) (drop (at + length new) old) 0 k (rw (sized old at new within) (omega arith))
    ∙ get_or_append_left (take at old) new 0 k (rw (taken old at within) before) ∙ get_or-take at old k 0 before

byte-within : (old : List ℕ) (at : ℕ) (new : List ℕ) (k : ℕ) → at ≤ length old → k < length new → slice_index (block_with old at new) (at + k) ≡ slice_index new k
byte-within old at new k within below =
    get_or_append_left (take at old ++ new) (drop (at + length new) old) 0 (at + k) (rw (sized old at new within) (omega arith))
    ∙ get_or-append_right (take at old) new (at + k) 0 (rw (taken old at within) (omega arith)) ∙ rw (taken old at within) (ap (slice_index new) (omega arith))

byte-after : (old : List ℕ) (at : ℕ) (new : List ℕ) (k : ℕ) → at ≤ length old → at + length new ≤ k → slice_index (block_with old at new) k ≡ slice_index old k
byte-after old at new k within after =
    get_or-append_right (take at old ++ new) (drop (at + length new) old) k 0 (rw (sized old at new within) after)
    ∙ rw (sized old at new within) (get_or-drop (at + length new) old (k - (at + length new)) 0 ∙ ap (slice_index old) (omega arith))

-- the record that was put is there, and the others are as they were
record-put : (block one : List ℕ) (at : ℕ) → at ≤ length block → length one ≡ 16 → change_from (drop at (block_with block at one)) ≡ change_from one
record-put block one at within long =
    change_from-alike (drop at (block_with block at one)) one
    (λ k below. get_or-drop at (block_with block at one) k 0 ∙ byte-within block at one k within (omega arith))

record-kept : (block one : List ℕ) (p m : ℕ) → length block ≡ 4096 → length one ≡ 16 → p < 256 → m ≢ p → change_from (drop (16 * m) (block_with block (16 * p) one)) ≡ change_from (drop (16 * m) block)
record-kept block one p m size long place other =
    change_from-alike (drop (16 * m) (block_with block (16 * p) one)) (drop (16 * m) block)
    (λ k below. get_or-drop (16 * m) (block_with block (16 * p) one) k 0 ∙ (byte k below (cases_lt m p) ∙ sym (get_or-drop (16 * m) block k 0)))
  where
    byte : (k : ℕ) → k < 16 → (m < p) ⊎ (p ≤ m) → slice_index (block_with block (16 * p) one) (16 * m + k) ≡ slice_index block (16 * m + k)
    byte k below (inl before) = byte-before block (16 * p) one (16 * m + k) (omega arith) (omega arith)
    byte k below (inr after) = byte-after block (16 * p) one (16 * m + k) (omega arith) (omega arith)

-- a record that is put in the place of a number
pub change_at-put : (blocks : List (List ℕ)) (n : ℕ) (block one : List ℕ) → n / 256 < length blocks → length block ≡ 4096 → length one ≡ 16
    → change_at (set blocks (n / 256) (block_with block (16 * (n % 256)) one)) n ≡ change_from one
change_at-put blocks n block one within size long =
    ap (λ (b : List ℕ). change_from (drop (16 * (n % 256)) b)) (get_or-set_same blocks (n / 256) (block_with block (16 * (n % 256)) one) [] within)
    ∙ record-put block one (16 * (n % 256)) (omega arith) long

pub change_at-kept : (blocks : List (List ℕ)) (n m : ℕ) (block one : List ℕ) → n / 256 < length blocks → slice_index_or blocks (n / 256) [] ≡ block → length block ≡ 4096 → length one ≡ 16 → m ≢ n
    → change_at (set blocks (n / 256) (block_with block (16 * (n % 256)) one)) m ≡ change_at blocks m
change_at-kept blocks n m block one within is size long other = by_block (cases_eq (m / 256) (n / 256))
  where
    by_block : ((m / 256) ≡ (n / 256)) ⊎ ((m / 256) ≢ (n / 256)) → change_at (set blocks (n / 256) (block_with block (16 * (n % 256)) one)) m ≡ change_at blocks m
    by_block (inl same) =
        ap (λ (i : ℕ). change_from (drop (16 * (m % 256)) (slice_index_or (set blocks (n / 256) (block_with block (16 * (n % 256)) one)) i []))) same
        ∙ (ap (λ (b : List ℕ). change_from (drop (16 * (m % 256)) b)) (get_or-set_same blocks (n / 256) (block_with block (16 * (n % 256)) one) [] within)
        ∙ (record-kept block one (n % 256) (m % 256) size long (omega arith) (omega arith)
        ∙ (ap (λ (b : List ℕ). change_from (drop (16 * (m % 256)) b)) (sym is)
        ∙ ap (λ (i : ℕ). change_from (drop (16 * (m % 256)) (slice_index_or blocks i []))) (sym same))))
    by_block (inr apart) =
        ap (λ (b : List ℕ). change_from (drop (16 * (m % 256)) b)) (get_or-set_other blocks (n / 256) (m / 256) (block_with block (16 * (n % 256)) one) [] apart)

-- the changes in blocks
pub length-changes_in : (blocks : List (List ℕ)) (n : ℕ) → length (changes_in blocks n) ≡ n
length-changes_in blocks zero = refl
length-changes_in blocks (suc n) = length-append (changes_in blocks n) (change_at blocks n ∷ []) ∙ (let more = length-changes_in blocks n in omega (arith, more))

pub get_or-changes_in : (blocks : List (List ℕ)) (n i : ℕ) (d : Change) → i < n → get_or (changes_in blocks n) i d ≡ change_at blocks i
get_or-changes_in blocks zero i d below = absurd (omega arith)
get_or-changes_in blocks (suc n) i d below = elim (cases_lt i n) [
  | inl before ↦
      get_or_append_left (changes_in blocks n) (change_at blocks n ∷ []) d i (rw (length-changes_in blocks n) before) ∙ get_or-changes_in blocks n i d before
  | inr last ↦
      let same : i ≡ n = omega arith in
      let first : n - n ≡ 0 = omega arith in
      get_or-append_right (changes_in blocks n) (change_at blocks n ∷ []) i d (rw (length-changes_in blocks n) last)
      ∙ rw (length-changes_in blocks n, same, first) refl
]

pub changes_in-alike : (old new : List (List ℕ)) (n : ℕ) → ((i : ℕ) → i < n → change_at new i ≡ change_at old i) → changes_in new n ≡ changes_in old n
changes_in-alike old new zero same = refl
changes_in-alike old new (suc n) same =
    ap (λ (changes : List Change). changes ++ change_at new n ∷ []) (changes_in-alike old new n (λ i below. same i (omega arith)))
    ∙ ap (λ (one : Change). changes_in old n ++ one ∷ []) (same n (omega arith))

-- the changes before one that is put are as they were
pub kept-changes : (before old new : List (List ℕ)) (n : ℕ) → IsFilledTo before n → ((k : ℕ) → k < length before → slice_index_or old k [] ≡ slice_index_or before k [])
    → ((k : ℕ) → k ≢ n → change_at new k ≡ change_at old k) → (i : ℕ) → i < n → change_at new i ≡ change_at before i
kept-changes before old new n filled same others i below =
    others i (omega arith) ∙ ap (λ (b : List ℕ). change_from (drop (16 * (i % 256)) b)) (same (i / 256) (let room = filled.room in omega arith))

-- a change more, where the blocks that there were are as they were
pub changes_in-push : (before old new : List (List ℕ)) (n : ℕ) (one : Change) → IsFilledTo before n
    → ((k : ℕ) → k < length before → slice_index_or old k [] ≡ slice_index_or before k [])
    → change_at new n ≡ one → ((k : ℕ) → k ≢ n → change_at new k ≡ change_at old k) → changes_in new (n + 1) ≡ changes_in before n ++ one ∷ []
changes_in-push before old new n one filled same value others =
    ap (changes_in new) (add-one n) ∙ ap (λ (last : Change). changes_in new n ++ last ∷ []) value
    ∙ ap (λ (changes : List Change). changes ++ one ∷ []) (changes_in-alike before new n (kept-changes before old new n filled same others))

-- the number of blocks
pub blocks_for-changes_in : (blocks : List (List ℕ)) (n : ℕ) → IsFilledTo blocks n → blocks_for (changes_in blocks n) ≡ length blocks
blocks_for-changes_in blocks n filled =
    ap (λ k. (k + 255) / 256) (length-changes_in blocks n) ∙ (let room = filled.room in let full = filled.full in omega arith)

-- an element of a list, whatever stands for one past its end
pub any-default : {X : Type 0} (xs : List X) (n : ℕ) (d e : X) → n < length xs → get_or xs n d ≡ get_or xs n e
any-default [] n d e h = absurd (omega arith)
any-default (x ∷ xs) zero d e h = refl
any-default (x ∷ xs) (suc n) d e h = any-default xs n d e (omega arith)

-- blocks before and after a change more, by how many there are
pub blocks-pushed : (before new : List (List ℕ)) (n len more : ℕ) → IsFilledTo before n → IsFilledTo new len → length new ≡ length before + more
    → blocks_for (changes_in new len) ≡ blocks_for (changes_in before n) + more
blocks-pushed before new n len more was is same =
    let first = blocks_for-changes_in before n was in
    let last = blocks_for-changes_in new len is in
    omega (arith, first, last)

pub blocks-counted : (before new : List (List ℕ)) (n len old live : ℕ) → IsFilledTo before n → IsFilledTo new len → live + length before ≡ old + length new
    → live + blocks_for (changes_in before n) ≡ old + blocks_for (changes_in new len)
blocks-counted before new n len old live was is same =
    let first = blocks_for-changes_in before n was in
    let last = blocks_for-changes_in new len is in
    omega (arith, first, last)

-- a change that is read from the block where it stands
pub below_len : (blocks : List (List ℕ)) (len number : ℕ) (changes : List Change) → changes_in blocks len ≡ changes → number < length changes → number < len
below_len blocks len number changes is below = let long = length-changes_in blocks len in let same = ap length is in omega (arith, long, same)

pub change_at-read : (blocks : List (List ℕ)) (len number : ℕ) (block : List ℕ) (one : Change) → IsFilledTo blocks len → number < len → block ≡ slice_index_or blocks (number / 256) block
    → one ≡ change_from (drop (16 * (number % 256)) block) → one ≡ change_at blocks number
change_at-read blocks len number block one filled below is read =
    let room = filled.room in
    read ∙ ap (λ (b : List ℕ). change_from (drop (16 * (number % 256)) b)) (is ∙ any-default blocks (number / 256) block [] (omega arith))
