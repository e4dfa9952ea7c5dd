-- The bytes of the core as they are added, and how many they are.
use Rattle.std.proofs.Common.{◌≡◌, ℕ, zero, suc, ◌+◌, ◌*◌, List, [], ◌++◌, refl, sym, ap, ◌∙◌, arith, append_assoc}
use Rattle.image_gen.specs.GeneratedCore.{memory_bytes, memory_slots, memory_from, stands_at, xword}

module _ (first second third a b : List ℕ) where
  -- bytes that were added in two parts
  pub appended : second ≡ first ++ a → third ≡ second ++ b → third ≡ first ++ (a ++ b)
  appended one other = other ∙ ap (λ (xs : List ℕ). xs ++ b) one ∙ append_assoc first a b

-- bytes that were added in six parts
pub six-appended : (a b c d e f : List ℕ) (x0 x1 x2 x3 x4 x5 x6 : List ℕ)
    → x1 ≡ x0 ++ a → x2 ≡ x1 ++ b → x3 ≡ x2 ++ c → x4 ≡ x3 ++ d → x5 ≡ x4 ++ e → x6 ≡ x5 ++ f
    → x6 ≡ x0 ++ (a ++ b ++ c ++ d ++ e ++ f)
six-appended a b c d e f x0 x1 x2 x3 x4 x5 x6 one two three four five six =
    appended x0 x5 x6 (a ++ b ++ c ++ d ++ e) f
    (appended x0 x4 x5 (a ++ b ++ c ++ d) e
    (appended x0 x3 x4 (a ++ b ++ c) d
    (appended x0 x2 x3 (a ++ b) c (appended x0 x1 x2 a b one two) three) four) five) six

-- one slot more
slots-suc : (a n : ℕ) → memory_from a (suc n) ≡ memory_from a n ++ xword (stands_at (a + 8 * n))
slots-suc a zero = ap (λ (at : ℕ). xword (stands_at at) ++ []) {x = a} {y = a + 8 * 0} (omega arith)
slots-suc a (suc n) =
    ap (λ (xs : List ℕ). xword (stands_at a) ++ xs) (slots-suc (a + 8) n)
    ∙ sym (append_assoc (xword (stands_at a)) (memory_from (a + 8) n) (xword (stands_at (a + 8 + 8 * n))))
    ∙ ap (λ (at : ℕ). (xword (stands_at a) ++ memory_from (a + 8) n) ++ xword (stands_at at)) {x = a + 8 + 8 * n} {y = a + 8 * suc n} (omega arith)

pub slots-more : (n : ℕ) → memory_from 0 (n + 1) ≡ memory_from 0 n ++ xword (stands_at (8 * n))
slots-more n =
    ap (λ (k : ℕ). memory_from 0 k) {x = n + 1} {y = suc n} (omega arith) ∙ slots-suc 0 n
    ∙ ap (λ (at : ℕ). memory_from 0 n ++ xword (stands_at at)) {x = 0 + 8 * n} {y = 8 * n} (omega arith)

pub memory-slots-are : memory_slots ≡ 131072
unfolding memory_slots
memory-slots-are = refl

pub memory-is : memory_bytes ≡ memory_from 0 memory_slots
unfolding memory_bytes
memory-is = refl

-- all slots
pub memory-of : (n : ℕ) → n ≡ 131072 → memory_from 0 n ≡ memory_bytes
memory-of n all = ap (λ (k : ℕ). memory_from 0 k) (all ∙ sym memory-slots-are) ∙ sym memory-is
