use Rattle.rights.proofs.Jobs.{failed-begins, memory-begins, read-begins}
use Rattle.rights.proofs.laws.what_was_put_begins_the_outcome.Goals as goal

pub returns-clause-write_failed : goal.returns-clause-write_failed
returns-clause-write_failed c = λ job outcome before now is ends. failed-begins job before now outcome ends is

pub returns-clause-out_of_memory : goal.returns-clause-out_of_memory
returns-clause-out_of_memory c = λ job outcome before now is ends. memory-begins job before now outcome ends is

pub returns-clause-read_failed : goal.returns-clause-read_failed
returns-clause-read_failed c = λ job outcome before now is ends. read-begins job before now outcome ends is
