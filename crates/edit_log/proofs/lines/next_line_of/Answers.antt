use Rattle.std.proofs.Common.{◌≡◌, drop}
use Rattle.std.specs.Prelude.{Ok, None}
use Rattle.edit_log.specs.LogLine.{event_of}
use Rattle.edit_log.proofs.Passing.{has-ended, rest_after, skips-more}
use Rattle.edit_log.proofs.lines.next_line_of.Goals as goal

pub lines-preserved : goal.lines-preserved
lines-preserved c =
    let bytes = c.args.bytes.now in
    let line = c.in-Some.line.now in
    let means : event_of line ≡ Ok None = c.is_skipped.ensures.0 c.if-not-is_skipped.false in
    let has = has-ended c.args.finished (drop c.lines.before bytes) c.in-Some.size line (rw (rest_after bytes c.lines.before) at c.in-Some.ensures.some) (λ long. absurd cc) in
    skips-more c.args.finished bytes c.lines.before c.lines.count c.in-Some.size line c.lines.invariant has means
