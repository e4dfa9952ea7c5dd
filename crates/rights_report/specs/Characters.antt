-- What lines of output are written with: the line end, numbers and rights. (Our own format; docs/FORMATS.md.)
use Rattle.std.specs.Prelude.{ℕ, List, [], ◌∷◌, ◌++◌, map, codes, false, if◌then◌else◌}
use Rattle.std.specs.Fmt.{digits}
use Rattle.paging_model.specs.AccessKinds.{is_fetch, is_write}
use Rattle.paging_model.specs.AccessSets.{accesses, has}
use Rattle.paging_model.specs.declared.access.Access.{Access}

-- LF
abbrev pub line_end : List ℕ
line_end = 10 ∷ []

-- `0x` and lower-case digits without leading zeros
abbrev pub hexadecimal : ℕ → List ℕ
hexadecimal n = codes "0x" ++ digits 16 false n

-- `x` for a fetch, `w` for a write, else `r`
abbrev pub letter_of : Access → ℕ
letter_of access = if is_fetch access then 120 else (if is_write access then 119 else 114)

-- the letter of an access that is in the set of a number, else `-`
abbrev pub character_in : ℕ → Access → ℕ
character_in rights access = if has rights access then letter_of access else 45

-- `rwxrwxrw`: user, supervisor and implicit supervisor accesses
abbrev pub rights_text : ℕ → List ℕ
rights_text rights = map (λ access. character_in rights access) accesses
