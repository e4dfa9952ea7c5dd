-- A log as lines, and a line as words. (Our own format; docs/FORMATS.md.)
use Rattle.std.specs.Prelude.{ℕ, List, [], ◌∷◌, ◌==◌, ◌||◌, Bool, false, if◌then◌else◌}

-- a byte before those of the first part
abbrev pub onto : ℕ → List (List ℕ) → List (List ℕ)
onto b [] = (b ∷ []) ∷ []
onto b (part ∷ parts) = (b ∷ part) ∷ parts

-- the lines end with LF, the last one with or without
abbrev pub lines_of : List ℕ → List (List ℕ)
lines_of [] = []
lines_of (b ∷ bytes) = if b == 10 then [] ∷ lines_of bytes else onto b (lines_of bytes)

-- some line ends in the bytes
abbrev pub has_end : List ℕ → Bool
has_end [] = false
has_end (b ∷ bytes) = b == 10 || has_end bytes

-- the lines that end in the bytes
abbrev pub whole_lines : List ℕ → List (List ℕ)
whole_lines [] = []
whole_lines (b ∷ bytes) =
    if b == 10 then [] ∷ whole_lines bytes else (if has_end bytes then onto b (whole_lines bytes) else [])

-- what stands after the last line that ends in the bytes
abbrev pub rest_of : List ℕ → List ℕ
rest_of [] = []
rest_of (b ∷ bytes) = if has_end bytes then rest_of bytes else (if b == 10 then bytes else b ∷ bytes)

-- the words stand between single spaces; two spaces, or one at an end, have an empty word beside them
abbrev pub words_of : List ℕ → List (List ℕ)
words_of [] = [] ∷ []
words_of (b ∷ bytes) = if b == 32 then [] ∷ words_of bytes else onto b (words_of bytes)
