-- The lines that are the same in each run, with their LF. (Our own format; docs/FORMATS.md.)
use Rattle.std.specs.Prelude.{ℕ, List, ◌++◌, codes}
use Rattle.rights_report.specs.Characters.{line_end}
use Rattle.rights_report.specs.RefusalLines.{core_refusal, refusal_line}

-- how the program is called, where the arguments have none of the forms
abbrev pub usage_line : List ℕ
usage_line = codes "usage: run CORE LOG | check CORE | gen SEED COUNT" ++ line_end

-- the refusal of a core over its limit
abbrev pub core_too_long_line : List ℕ
core_too_long_line = core_refusal (codes "too long")

-- the refusal of a log over its limit
abbrev pub log_too_long_line : List ℕ
log_too_long_line = refusal_line (codes "log") (codes "too long")
