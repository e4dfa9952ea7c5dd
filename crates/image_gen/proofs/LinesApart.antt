-- Words between spaces, and lines that an LF ends.
use Rattle.std.proofs.Common.{◌≡◌, ℕ, ◌+◌, ◌*◌, ◌≤◌, List, [], ◌∷◌, ◌++◌, length, refl, arith, ap, ◌∙◌, append_assoc}
use Rattle.std.proofs.lemmas.Bool.Decides.{nat_tests}
use Rattle.std.proofs.lemmas.List.{length-append}
use Rattle.std.specs.Prelude.{Bool, true, false, ◌&&◌, nat_le}
use Rattle.std.specs.List.{AllByRecursion, list_all}
use Rattle.edit_log.specs.Log.{lines_of, words_of}
use Rattle.image_gen.proofs.SpelledNumbers.{IsVisible, all-append}

-- no control character, as LF is one
abbrev pub IsPrintable : List ℕ → Type 0
IsPrintable line = AllByRecursion (λ c. 32 ≤ c) line

printable-visible : (word : List ℕ) → IsVisible word → IsPrintable word
printable-visible [] all = tt
printable-visible (c ∷ word) all = let first = all.0 in (omega (arith, first), printable-visible word all.1)

-- a word that a space ends, and the last word
words-space : (word rest : List ℕ) → IsVisible word → words_of (word ++ 32 ∷ rest) ≡ word ∷ words_of rest
words-space [] rest all = refl
words-space (c ∷ word) rest all = let first = all.0 in grind (arith, nat_tests, words-space word rest all.1, first)

words-last : (word : List ℕ) → IsVisible word → words_of word ≡ word ∷ []
words-last [] all = refl
words-last (c ∷ word) all = let first = all.0 in grind (arith, nat_tests, words-last word all.1, first)

-- a word of up to 20 characters without a space
pub record IsWord (word : List ℕ) : Type 0 where
  pub visible : IsVisible word
  pub few : length word ≤ 20

text-more : (c : ℕ) (here rest : Bool) → here ≡ nat_le 33 c → (here && rest) ≡ true → (33 ≤ c) × (rest ≡ true)
text-more c true rest is all = (grind (arith, nat_tests, is), all)
text-more c false rest is all = absurd cc

text-visible : (word : List ℕ) → list_all (nat_le 33) word ≡ true → IsVisible word
text-visible [] all = tt
text-visible (c ∷ word) all =
    let more = text-more c (nat_le 33 c) (list_all (nat_le 33) word) refl all in (more.0, text-visible word more.1)

-- a word whose characters are known
pub text-word : (word : List ℕ) → list_all (nat_le 33) word ≡ true → nat_le (length word) 20 ≡ true → IsWord word
text-word word all few = record { visible = text-visible word all; few = grind (arith, nat_tests, few) }

-- words with a space between them
abbrev pub line_of_words : List ℕ → List (List ℕ) → List ℕ
line_of_words word [] = word
line_of_words word (next ∷ more) = word ++ 32 ∷ line_of_words next more

pub words-line : (word : List ℕ) (more : List (List ℕ)) → IsWord word → AllByRecursion IsWord more
    → words_of (line_of_words word more) ≡ word ∷ more
words-line word [] is all = words-last word is.visible
words-line word (next ∷ more) is all =
    words-space word (line_of_words next more) is.visible ∙ ap (λ words. word ∷ words) (words-line next more all.0 all.1)

pub printable-line : (word : List ℕ) (more : List (List ℕ)) → IsWord word → AllByRecursion IsWord more
    → IsPrintable (line_of_words word more)
printable-line word [] is all = printable-visible word is.visible
printable-line word (next ∷ more) is all =
    all-append (λ c. 32 ≤ c) word (32 ∷ line_of_words next more) (printable-visible word is.visible)
    (omega arith, printable-line next more all.0 all.1)

pub length-line : (word : List ℕ) (more : List (List ℕ)) → IsWord word → AllByRecursion IsWord more
    → length (line_of_words word more) ≤ 21 * length more + 20
length-line word [] is all = is.few
length-line word (next ∷ more) is all =
    let rest : length (line_of_words next more) ≤ 21 * length more + 20 = length-line next more all.0 all.1 in
    let first : length word ≤ 20 = is.few in
    omega (arith, first, rest, length-append word (32 ∷ line_of_words next more))

ended-line : (line rest : List ℕ) → IsPrintable line → lines_of (line ++ 10 ∷ rest) ≡ line ∷ lines_of rest
ended-line [] rest all = refl
ended-line (c ∷ line) rest all = let first = all.0 in grind (arith, nat_tests, ended-line line rest all.1, first)

-- a line that an LF ends
pub lines-end : (line rest : List ℕ) → IsPrintable line → lines_of ((line ++ 10 ∷ []) ++ rest) ≡ line ∷ lines_of rest
lines-end line rest all = ap lines_of (append_assoc line (10 ∷ []) rest) ∙ ended-line line rest all
