-- A line split at its first space.
use Rattle.std.proofs.Common.{◌≡◌, ◌≢◌, ℕ, ◌+◌, ◌-◌, ◌<◌, List, [], ◌∷◌, ◌++◌, refl, arith, ap, ◌∙◌, take, drop, length, get_or, inl, inr}
use Rattle.std.proofs.lemmas.Grind.{common_steps}
use Rattle.std.proofs.lemmas.Bool.Decides.{nat_tests}
use Rattle.std.proofs.lemmas.Bool.{cases_eq}
use Rattle.std.specs.Prelude.{All, true, false, ◌⊎◌, ◌==◌, if◌then◌else◌}
use Rattle.std.proofs.lemmas.List.Elements.{recursion_from_All}
use Rattle.std.specs.List.{AllByRecursion}
use Rattle.edit_log.specs.Log.{words_of, onto}

-- a line of more than one word
pub record HasMoreWords (line : List ℕ) : Type 0 where
  pub first : List ℕ
  pub second : List ℕ
  pub more : List (List ℕ)
  pub is : words_of line ≡ first ∷ second ∷ more

-- a word that a space ends
word-space : (word rest : List ℕ) → AllByRecursion (λ b. b ≢ 32) word → words_of (word ++ 32 ∷ rest) ≡ word ∷ words_of rest
word-space [] rest none = refl
word-space (b ∷ word) rest none = grind (arith, nat_tests, word-space word rest none.1, none.0)

-- the last word
pub word-last : (word : List ℕ) → AllByRecursion (λ b. b ≢ 32) word → words_of word ≡ word ∷ []
word-last [] none = refl
word-last (b ∷ word) none = grind (arith, nat_tests, word-last word none.1, none.0)

-- there is always a first word
words_some : (line : List ℕ) → (word : List ℕ) × (rest : List (List ℕ)) × (words_of line ≡ word ∷ rest)
words_some [] = ([], [], refl)
words_some (b ∷ line) =
    let more = words_some line in
    elim (b == 32) as (λ space. (word : List ℕ) × (rest : List (List ℕ)) × ((if space then [] ∷ words_of line else onto b (words_of line)) ≡ word ∷ rest)) [
      | true ↦ ([], words_of line, refl)
      | false ↦ (b ∷ more.0, more.1, rw more.2 refl)
    ]

words-onto : (b : ℕ) (line : List ℕ) → b ≢ 32 → words_of (b ∷ line) ≡ onto b (words_of line)
words-onto b line other = grind (arith, nat_tests, other)

-- a line is one word, or more
pub one_or_more : (line : List ℕ) → (words_of line ≡ line ∷ []) ⊎ HasMoreWords line
one_or_more [] = inl refl
one_or_more (b ∷ line) = elim (cases_eq b 32) [
  | inl space ↦
      let some = words_some line in
      inr (record { first = []; second = some.0; more = some.1; is = ap (λ x. words_of (x ∷ line)) space ∙ ap (λ words. [] ∷ words) some.2 })
  | inr other ↦ elim (one_or_more line) [
    | inl one ↦ inl (words-onto b line other ∙ ap (onto b) one)
    | inr rest ↦ inr (record { first = b ∷ rest.first; second = rest.second; more = rest.more; is = words-onto b line other ∙ ap (onto b) rest.is })
  ]
]

parts_at : (bytes : List ℕ) (i separator : ℕ) → i < length bytes → get_or bytes i 0 ≡ separator
    → bytes ≡ take i bytes ++ (separator ∷ drop (i + 1) bytes)
parts_at bytes i separator within is = grind (arith, common_steps)

-- after an index all that is left
rest_of : (xs : List ℕ) (n : ℕ) → take (length xs - n) (drop n xs) ≡ drop n xs
rest_of xs n = grind (arith, common_steps)

pub word_at : (line : List ℕ) (i : ℕ) → i < length line → get_or line i 0 ≡ 32 → All (λ b. b ≢ 32) (take i line)
    → words_of line ≡ take i line ∷ words_of (take (length line - (i + 1)) (drop (i + 1) line))
word_at line i within is before =
    rw (rest_of line (i + 1)) (ap words_of (parts_at line i 32 within is) ∙ word-space (take i line) (drop (i + 1) line) (recursion_from_All _ _ before))

pub word_whole : (line : List ℕ) → All (λ b. b ≢ 32) line → words_of line ≡ line ∷ []
word_whole line none = word-last line (recursion_from_All (λ x. x ≢ 32) line none)
