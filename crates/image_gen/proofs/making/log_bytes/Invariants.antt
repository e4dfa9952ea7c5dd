use Rattle.std.proofs.Common.{◌≡◌, ◌+◌, ◌-◌, ◌++◌}
use Rattle.image_gen.specs.GeneratedLog.{lines_from}
use Rattle.image_gen.specs.LineTexts.{generated_log}
use Rattle.image_gen.proofs.LogBytes.{text_of_lines}
use Rattle.image_gen.proofs.making.log_bytes.Given as goal

-- the lines that were added, and those that are left
abbrev pub invariant-loop-index : goal.invariant-loop-index
invariant-loop-index l =
    l.log.items ++ text_of_lines (lines_from (l.index + 1) (l.count - l.index) l.generator.state) ≡ generated_log l.seed l.count
