use Rattle.std.proofs.Common.{None}
use Rattle.past_entries.proofs.SpanLaws.{spans-value, value-spans}
use Rattle.past_entries.proofs.merging.spans_of_values_make_what_the_values_make.Goals as goal

pub returns : goal.returns
returns c makes value at from end spans e t are = (spans-value makes value at e t None from end spans are, value-spans makes value at e t None from end spans are)
