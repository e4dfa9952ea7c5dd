-- The exit statuses of a run. (Our own format; docs/FORMATS.md.)
use Rattle.std.specs.Prelude.{ℕ}
use Rattle.rights.specs.declared.statuses.Status.{Status}
use Rattle.rights.specs.declared.statuses.Status.TheVariants.{Answered, Stale, Usage, CoreRefused, LogRefused, ReadFailed, WriteFailed, OutOfMemory}

-- the exit status of an end
abbrev pub code_of : Status → ℕ
code_of Answered = 0
code_of Stale = 1
code_of Usage = 2
code_of CoreRefused = 3
code_of LogRefused = 4
code_of ReadFailed = 5
code_of WriteFailed = 6
code_of OutOfMemory = 7
