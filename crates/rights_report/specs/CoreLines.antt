-- The line of a core that isn't refused, with its LF. (Our own format; docs/FORMATS.md.)
use Rattle.std.specs.Prelude.{ℕ, List, ◌++◌, length, Bool, true, false, codes}
use Rattle.std.specs.Fmt.{decimal}
use Rattle.elf_core.specs.declared.core_file.Core.{Core}
use Rattle.rights_report.specs.Characters.{line_end}

-- a flag, as a log's `machine` line has it: 1 where it holds, else 0
abbrev pub flag_text : Bool → List ℕ
flag_text true = codes "1"
flag_text false = codes "0"

-- how many segments and processors the core has, the physical width in bits, and whether there are 1-GByte pages
abbrev pub core_line : Core → List ℕ
core_line core =
    codes "core ok: segments " ++ (decimal (length core.segments) ++ (codes ", processors "
    ++ (decimal (length core.processors) ++ (codes ", machine " ++ (decimal core.machine.m ++ (codes " "
    ++ (flag_text core.machine.big ++ line_end)))))))
