-- The tables of the generated core: one of each level above 16 tables of level 1, which map 512 pages each. (Our own
-- format; docs/FORMATS.md.)
use Rattle.std.specs.Prelude.{ℕ, ◌+◌, ◌*◌}

-- the top table
abbrev pub root : ℕ
root = 0x1000

-- a table of level 1, from 0 to 15
abbrev pub table : ℕ → ℕ
table i = 0x10000 + 0x1000 * i

-- its entry with a number, from 0 to 511
abbrev pub slot : ℕ → ℕ → ℕ
slot i j = table i + 8 * j

-- the page that the entry maps in the core
abbrev pub page : ℕ → ℕ → ℕ
page i j = 0x100000 + 0x1000 * (512 * i + j)

-- an entry that permits every access: present, writable and a user's
abbrev pub open_entry : ℕ → ℕ
open_entry frame = frame + 7
