-- Each refusal computes from what is given of the log.
use Rattle.std.proofs.Common.{refl}
use Rattle.std.specs.Fmt.{digits}
use Rattle.rights.proofs.examples.long_logs.Goals as goal

pub returns : goal.returns
unfolding digits
returns c = record {
  lines_that_end = refl;
  all_lines = refl;
  within = λ bytes number. refl;
  nothing_left = refl;
  at_the_limit = λ start bytes part rest many. rw (rest, many) refl;
  past_the_limit = λ start bytes part rest lines many. rw (rest, lines, many) refl;
  long_line = λ start bytes line others part rest lines long. rw (rest, lines, long) refl;
  nothing_more = λ start bytes part rest. rw rest refl;
}
