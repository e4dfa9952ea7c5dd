-- The little-endian numbers of a file, by their offset in its bytes. ELF names their sizes: half 2, word 4, xword 8.
-- System V gABI, "Data Representation".
use Rattle.std.specs.Prelude.{ℕ, List, drop}
use Rattle.byteorder.specs.Endian.{little_number}

abbrev pub half_at : List ℕ → ℕ → ℕ
half_at bytes offset = little_number 2 (drop offset bytes)

abbrev pub word_at : List ℕ → ℕ → ℕ
word_at bytes offset = little_number 4 (drop offset bytes)

abbrev pub xword_at : List ℕ → ℕ → ℕ
xword_at bytes offset = little_number 8 (drop offset bytes)
