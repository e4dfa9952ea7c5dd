-- What stands after the last line that ends in some bytes, and how many lines there are at most.
use Rattle.std.proofs.Common.{◌≡◌, ℕ, ◌+◌, ◌<◌, ◌≤◌, List, [], ◌∷◌, ◌++◌, refl, arith, ap, sym, ◌∙◌, length, length-append}
use Rattle.std.proofs.lemmas.Bool.Decides.{nat_tests}
use Rattle.std.specs.Prelude.{Bool, true, false, ◌==◌, ◌||◌, if◌then◌else◌}
use Rattle.edit_log.specs.Log.{lines_of, whole_lines, rest_of, has_end, onto}

-- the lines of bytes, of which the last may be without LF where no more will come
abbrev pub lines_left : Bool → List ℕ → List (List ℕ)
lines_left finished bytes = if finished then lines_of bytes else whole_lines bytes

-- the rest as a line, unless there is none
abbrev tail : List ℕ → List (List ℕ)
tail [] = []
tail (b ∷ bytes) = (b ∷ bytes) ∷ []

pub rest_alone : (bytes : List ℕ) → has_end bytes ≡ false → rest_of bytes ≡ bytes
rest_alone [] none = refl
rest_alone (b ∷ bytes) none = grind (arith, nat_tests)

pub none_whole : (bytes : List ℕ) → has_end bytes ≡ false → whole_lines bytes ≡ []
none_whole [] none = refl
none_whole (b ∷ bytes) none = grind (arith, nat_tests)

some_whole : (bytes : List ℕ) → has_end bytes ≡ true → (line : List ℕ) × (more : List (List ℕ)) × (whole_lines bytes ≡ line ∷ more)
some_whole [] some = absurd (cc)
some_whole (b ∷ bytes) some =
    elim (b == 10) as (λ is. (is || has_end bytes) ≡ true → (line : List ℕ) × (more : List (List ℕ))
    × ((if is then [] ∷ whole_lines bytes else (if has_end bytes then onto b (whole_lines bytes) else [])) ≡ line ∷ more)) [
      | true ↦ λ _. ([], whole_lines bytes, refl)
      | false ↦ λ (is : has_end bytes ≡ true). let rest = some_whole bytes is in (b ∷ rest.0, rest.1, rw (is, rest.2) refl)
    ] some

onto_more : (b : ℕ) (lines more : List (List ℕ)) (line : List ℕ) (rest : List (List ℕ)) → lines ≡ line ∷ rest → onto b (lines ++ more) ≡ onto b lines ++ more
onto_more b lines more line rest is = rw is refl

-- bytes in which no line ends are one line, unless there are none
unended : (b : ℕ) (bytes : List ℕ) → (b == 10) ≡ false → has_end bytes ≡ false → lines_of bytes ≡ tail bytes → lines_of (b ∷ bytes) ≡ (b ∷ bytes) ∷ []
unended b [] is none lines = rw is refl
unended b (c ∷ bytes) is none lines = rw (is, lines) refl

-- one byte more at the front
line_and_rest : (b : ℕ) (bytes : List ℕ) (is has : Bool) → (b == 10) ≡ is → has_end bytes ≡ has → lines_of bytes ≡ whole_lines bytes ++ tail (rest_of bytes)
    → lines_of (b ∷ bytes) ≡ whole_lines (b ∷ bytes) ++ tail (rest_of (b ∷ bytes))
line_and_rest b bytes true true is has so_far = rw (is, has, so_far) refl
line_and_rest b bytes true false is has so_far = rw (is, has, so_far, rest_alone bytes has) refl
line_and_rest b bytes false true is has so_far =
    let some = some_whole bytes has in rw (is, has, so_far) (onto_more b (whole_lines bytes) (tail (rest_of bytes)) some.0 some.1 some.2)
line_and_rest b bytes false false is has so_far =
    let lines : lines_of bytes ≡ tail bytes = rw (none_whole bytes has, rest_alone bytes has) at so_far in
    unended b bytes is has lines ∙ rw (is, has) refl

-- bytes as the lines that end in them, and what stands after
whole_and_rest : (bytes : List ℕ) → lines_of bytes ≡ whole_lines bytes ++ tail (rest_of bytes)
whole_and_rest [] = refl
whole_and_rest (b ∷ bytes) = line_and_rest b bytes (b == 10) (has_end bytes) refl refl (whole_and_rest bytes)

pub lines_at_most : (bytes : List ℕ) → length (lines_of bytes) ≤ length bytes
lines_at_most [] = omega arith
lines_at_most (b ∷ bytes) = at_byte (b == 10) (lines_of bytes) (lines_at_most bytes)
  where
    at_byte : (is : Bool) (lines : List (List ℕ)) → length lines ≤ length bytes → length (if is then [] ∷ lines else onto b lines) ≤ length (b ∷ bytes)
    at_byte true lines few = omega (arith, few)
    at_byte false [] few = omega arith
    at_byte false (line ∷ lines) few = omega (arith, few)

end_later : (front rest : List ℕ) → has_end front ≡ true → has_end (front ++ rest) ≡ true
end_later [] rest some = absurd (cc)
end_later (b ∷ front) rest some = grind (arith, nat_tests, end_later front rest)

-- the lines of bytes, whatever stands after them: those that end in them, and those from the rest on
line_before : (finished : Bool) (b : ℕ) (front rest : List ℕ) (is has : Bool) → (b == 10) ≡ is → has_end front ≡ has
    → lines_left finished (front ++ rest) ≡ whole_lines front ++ lines_left finished (rest_of front ++ rest)
    → lines_left finished (b ∷ front ++ rest) ≡ whole_lines (b ∷ front) ++ lines_left finished (rest_of (b ∷ front) ++ rest)
line_before true b front rest true true is has so_far = rw (is, has, so_far) refl
line_before false b front rest true true is has so_far = rw (is, has, so_far) refl
line_before true b front rest true false is has so_far = rw (has, is, none_whole front has) refl
line_before false b front rest true false is has so_far = rw (has, is, none_whole front has) refl
line_before true b front rest false true is has so_far =
    let some = some_whole front has in
    rw (is, has, so_far) (onto_more b (whole_lines front) (lines_left true (rest_of front ++ rest)) some.0 some.1 some.2)
line_before false b front rest false true is has so_far =
    let some = some_whole front has in
    rw (is, has, end_later front rest has, so_far) (onto_more b (whole_lines front) (lines_left false (rest_of front ++ rest)) some.0 some.1 some.2)
line_before finished b front rest false false is has so_far =
    let left : rest_of (b ∷ front) ≡ b ∷ front = rw (has, is) refl in
    let whole : whole_lines (b ∷ front) ≡ [] = rw (is, has) refl in
    rw (left, whole) refl

pub lines_after : (finished : Bool) (front rest : List ℕ) → lines_left finished (front ++ rest) ≡ whole_lines front ++ lines_left finished (rest_of front ++ rest)
lines_after true [] rest = refl
lines_after false [] rest = refl
lines_after finished (b ∷ front) rest = line_before finished b front rest (b == 10) (has_end front) refl refl (lines_after finished front rest)

-- what stands after the last line that ends, whatever stands after the bytes
byte_before : (b : ℕ) (front rest : List ℕ) (is has : Bool) → (b == 10) ≡ is → has_end front ≡ has
    → rest_of (front ++ rest) ≡ rest_of (rest_of front ++ rest) → rest_of (b ∷ front ++ rest) ≡ rest_of (rest_of (b ∷ front) ++ rest)
byte_before b front rest is true at has so_far = rw (has, end_later front rest has, so_far) refl
byte_before b front rest true false at has so_far =
    let left : rest_of (b ∷ front) ≡ front = rw (has, at) refl in
    rw left (last_end (front ++ rest) (has_end (front ++ rest)) refl)
  where
    last_end : (bytes : List ℕ) (has : Bool) → has_end bytes ≡ has → rest_of (b ∷ bytes) ≡ rest_of bytes
    last_end bytes true has = rw has refl
    last_end bytes false has = rw (has, at) (sym (rest_alone bytes has))
byte_before b front rest false false at has so_far =
    let left : rest_of (b ∷ front) ≡ b ∷ front = rw (has, at) refl in
    rw left refl

pub rest_later : (front rest : List ℕ) → rest_of (front ++ rest) ≡ rest_of (rest_of front ++ rest)
rest_later [] rest = refl
rest_later (b ∷ front) rest = byte_before b front rest (b == 10) (has_end front) refl refl (rest_later front rest)

no_tail : (lines : List (List ℕ)) (rest : List ℕ) → lines ≡ lines ++ tail rest → rest ≡ []
no_tail lines [] is = refl
no_tail lines (b ∷ rest) is = let longer : length lines ≡ length (lines ++ tail (b ∷ rest)) = ap length is in absurd (omega (arith, longer, length-append lines (tail (b ∷ rest))))

-- nothing stands after lines that end
pub rest_none : (bytes : List ℕ) → whole_lines bytes ≡ lines_of bytes → rest_of bytes ≡ []
rest_none bytes whole = no_tail (whole_lines bytes) (rest_of bytes) (whole ∙ whole_and_rest bytes)

-- taking lines that end leaves what stands after the last one
pub rest_after : (front rest : List ℕ) → whole_lines front ≡ lines_of front → rest_of (front ++ rest) ≡ rest_of rest
rest_after front rest whole = rest_later front rest ∙ ap (λ (left : List ℕ). rest_of (left ++ rest)) (rest_none front whole)

-- no line ends in what stands after the last one
pub rest_unended : (bytes : List ℕ) → has_end (rest_of bytes) ≡ false
rest_unended [] = refl
rest_unended (b ∷ bytes) = at_byte (b == 10) (has_end bytes) refl refl (rest_unended bytes)
  where
    at_byte : (is has : Bool) → (b == 10) ≡ is → has_end bytes ≡ has → has_end (rest_of bytes) ≡ false → has_end (rest_of (b ∷ bytes)) ≡ false
    at_byte is true at has so_far = rw has so_far
    at_byte true false at has so_far = rw (has, at) has
    at_byte false false at has so_far =
        let left : rest_of (b ∷ bytes) ≡ b ∷ bytes = rw (has, at) refl in
        rw (left, at) has

-- the length of the first of some lines, 0 where there are none
abbrev pub first_length : List (List ℕ) → ℕ
first_length [] = 0
first_length (line ∷ lines) = length line

onto_first : (b : ℕ) (lines : List (List ℕ)) → first_length (onto b lines) ≡ first_length lines + 1
onto_first b [] = refl
onto_first b (line ∷ lines) = omega arith

-- bytes in which no line ends stand in the first line, whatever stands after them
first_of_all : (front rest : List ℕ) → has_end front ≡ false → length front ≤ first_length (lines_of (front ++ rest))
first_of_all [] rest none = omega arith
first_of_all (b ∷ front) rest none =
    let other : (b == 10) ≡ false = grind (arith, nat_tests, none) in
    let later : has_end front ≡ false = grind (arith, nat_tests, none) in
    rw other (omega (arith, onto_first b (lines_of (front ++ rest)), first_of_all front rest later))

first_of_whole : (front rest : List ℕ) → has_end front ≡ false → has_end (front ++ rest) ≡ true → length front ≤ first_length (whole_lines (front ++ rest))
first_of_whole [] rest none ends = omega arith
first_of_whole (b ∷ front) rest none ends =
    let other : (b == 10) ≡ false = grind (arith, nat_tests, none) in
    let later : has_end front ≡ false = grind (arith, nat_tests, none) in
    let some : has_end (front ++ rest) ≡ true = rw other at ends in
    rw (other, some) (omega (arith, onto_first b (whole_lines (front ++ rest)), first_of_whole front rest later some))

-- Bytes in which no line ends begin the next line, which then has as many at least; or they stand in the rest, which
-- does.
pub data NextLine (finished : Bool) (front rest : List ℕ) : Type 0 where
  ends : (line : List ℕ) (more : List (List ℕ)) → lines_left finished (front ++ rest) ≡ line ∷ more → length front ≤ length line → NextLine finished front rest
  goes_on : finished ≡ false → lines_left finished (front ++ rest) ≡ [] → length front ≤ length (rest_of (front ++ rest)) → NextLine finished front rest

first_line : (finished : Bool) (front rest : List ℕ) (lines : List (List ℕ)) → 0 < length front → lines_left finished (front ++ rest) ≡ lines → length front ≤ first_length lines → NextLine finished front rest
first_line finished front rest [] some is long = absurd (omega (arith, some, long))
first_line finished front rest (line ∷ more) some is long = ends line more is long

pub next_line : (finished : Bool) (front rest : List ℕ) → 0 < length front → has_end front ≡ false → NextLine finished front rest
next_line true front rest some none = first_line true front rest (lines_of (front ++ rest)) some refl (first_of_all front rest none)
next_line false front rest some none = by_end (has_end (front ++ rest)) refl
  where
    by_end : (has : Bool) → has_end (front ++ rest) ≡ has → NextLine false front rest
    by_end true has = first_line false front rest (whole_lines (front ++ rest)) some refl (first_of_whole front rest none has)
    by_end false has = goes_on refl (none_whole (front ++ rest) has) (rw (rest_alone (front ++ rest) has) (omega (arith, length-append front rest)))
