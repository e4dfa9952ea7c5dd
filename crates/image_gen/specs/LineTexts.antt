-- How the lines of the generated log are spelled. (Our own format; docs/FORMATS.md.)
use Rattle.std.specs.Prelude.{ℕ, List, [], ◌∷◌, ◌++◌, ◌/◌, ◌%◌, flat_map, false, codes}
use Rattle.std.specs.Fmt.{decimal, digit_glyph}
use Rattle.byteorder.specs.Endian.{little_bytes}
use Rattle.paging_model.specs.declared.access.Access.{Access}
use Rattle.paging_model.specs.declared.access.Access.TheVariants as access
use Rattle.rights_report.specs.Characters.{hexadecimal, line_end}
use Rattle.image_gen.specs.GeneratedTables.{root}
use Rattle.image_gen.specs.GeneratedLog.{generated_lines}
use Rattle.image_gen.specs.declared.lines.Line.{Line}
use Rattle.image_gen.specs.declared.lines.Line.TheVariants.{Point, LoseAll, List as ListOf, Write, Invlpg, Ask, SetRoot}

-- the name of a kind of access
abbrev pub access_text : Access → List ℕ
access_text access.Ur = codes "ur"
access_text access.Uw = codes "uw"
access_text access.Ux = codes "ux"
access_text access.Sr = codes "sr"
access_text access.Sw = codes "sw"
access_text access.Sx = codes "sx"
access_text access.Ir = codes "ir"
access_text access.Iw = codes "iw"

-- two digits for each byte
abbrev pub byte_pairs : List ℕ → List ℕ
byte_pairs bytes = flat_map (λ byte. digit_glyph false (byte / 16) ∷ digit_glyph false (byte % 16) ∷ []) bytes

-- a line without its LF
abbrev pub words_of_line : Line → List ℕ
words_of_line Point = codes "point current"
words_of_line (LoseAll cpu) = codes "invpcid " ++ decimal cpu ++ codes " 2 0 0x0"
words_of_line ListOf = codes "list 0"
words_of_line (Write slot entry) = codes "write " ++ hexadecimal slot ++ codes " " ++ byte_pairs (little_bytes 8 entry)
words_of_line (Invlpg cpu address) = codes "invlpg " ++ decimal cpu ++ codes " " ++ hexadecimal address
words_of_line (Ask cpu access pointer) =
    codes "ask " ++ decimal cpu ++ codes " " ++ access_text access ++ codes " " ++ hexadecimal pointer
words_of_line (SetRoot cpu) = codes "set " ++ decimal cpu ++ codes " cr3 " ++ hexadecimal root

-- the log for a seed
abbrev pub generated_log : ℕ → ℕ → List ℕ
generated_log seed count = flat_map (λ line. words_of_line line ++ line_end) (generated_lines seed count)
