use Rattle.std.proofs.Common.{◌≡◌, ap, inl, inr}
use Rattle.std.specs.Prelude.{Err}
use Rattle.rights.specs.declared.stopping.Stop.TheVariants.{Read}
use Rattle.outside.proofs.Counts.{Rose-earlier, Rose-later}
use Rattle.rights.proofs.Completeness.{complete}
use Rattle.rights.proofs.Finishing.{ends-files, last-read, read-failed, stops-last}
use Rattle.rights.proofs.program.answer.Goals as goal

pub returns-in-Ok-clause-ends : goal.returns-in-Ok-clause-ends
returns-in-Ok-clause-ends g c = ends-files _ _ _ _ c.in-Ok.status c.in-Ok.ensures.ends

pub returns-in-Ok-clause-complete : goal.returns-in-Ok-clause-complete
returns-in-Ok-clause-complete g c = λ core_bytes log_bytes core_is log_is core_read log_read written.
    complete _ _ core_bytes log_bytes _ _ c.in-Ok.status core_is log_is
    (λ failed. elim (c.in-Ok.ensures.causes.read_failed failed) [ inl core ↦ core_read core | inr log ↦ log_read log.0 ])
    (λ failed. written (c.in-Ok.ensures.causes.write_failed failed))
    (ends-files _ _ _ _ c.in-Ok.status c.in-Ok.ensures.ends)

pub returns-in-Err-clause-ends : goal.returns-in-Err-clause-ends
returns-in-Err-clause-ends g c = stops-last _ _ _ _ _ c.in-Err.stop c.finish.result c.in-Err.ensures.ends c.finish.ensures.puts

pub returns-in-Err-clause-complete : goal.returns-in-Err-clause-complete
returns-in-Err-clause-complete g c = λ core_bytes log_bytes core_is log_is core_read log_read written.
    complete _ _ core_bytes log_bytes _ _ c.finish.result core_is log_is
    (λ failed. elim (c.in-Err.ensures.causes.read_failed (last-read c.in-Err.stop c.finish.result c.finish.ensures.among failed)) [
      | inl core ↦ core_read core
      | inr log ↦ log_read log.0
    ])
    (λ failed. elim (c.finish.ensures.cause failed) [
      | inl before ↦ written (Rose-later _ _ _ (c.in-Err.ensures.causes.write_failed before) c.finish.ensures.count)
      | inr last ↦ written (Rose-earlier _ _ _ c.in-Err.ensures.write_count last)
    ])
    (stops-last _ _ _ _ _ c.in-Err.stop c.finish.result c.in-Err.ensures.ends c.finish.ensures.puts)

pub returns-in-Ok-clause-read_failed : goal.returns-in-Ok-clause-read_failed
returns-in-Ok-clause-read_failed g c = λ bytes known failed. absurd (c.in-Ok.ensures.ended failed)

pub returns-in-Err-clause-read_failed : goal.returns-in-Err-clause-read_failed
returns-in-Err-clause-read_failed g c = λ bytes known failed.
    let why : c.in-Err.stop ≡ Read = read-failed c.in-Err.stop (last-read c.in-Err.stop c.finish.result c.finish.ensures.among failed) in
    let same = rw why at c.finish.ensures.puts in
    rw same.0 (c.in-Err.ensures.read_failed bytes known (ap Err why))
