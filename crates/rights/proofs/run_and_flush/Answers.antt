use Rattle.std.proofs.Common.{refl, inl, inr, arith}
use Rattle.rights.specs.declared.statuses.Status.TheVariants.{WriteFailed}
use Rattle.rights.proofs.run_and_flush.Goals as goal

pub returns-in-Ok-clause-complete : goal.returns-in-Ok-clause-complete
returns-in-Ok-clause-complete g c = λ core log core_bytes log_bytes is core_known log_known core_read log_read written.
    c.run_uncounted-code.ensures.complete core log core_bytes log_bytes is core_known log_known core_read log_read
    (λ rose. written (omega (arith, rose, c.in-Ok.ensures.faults)))

pub returns-in-Err-clause-usage : goal.returns-in-Err-clause-usage
returns-in-Err-clause-usage g c = λ none. (WriteFailed, c.code.ensures, inr refl)

pub returns-in-Err-clause-outcome : goal.returns-in-Err-clause-outcome
returns-in-Err-clause-outcome g c = λ core log is. (WriteFailed, c.code.ensures, inl refl)

pub returns-in-Err-clause-causes : goal.returns-in-Err-clause-causes
returns-in-Err-clause-causes g c = (
  WriteFailed,
  c.code.ensures,
  record {
    read_failed = λ other. absurd (cc other);
    write_failed = λ same. omega (arith, c.run_uncounted-code.ensures.write_count, c.in-Err.ensures.faults);
  },
)

pub returns-in-Err-clause-flushed : goal.returns-in-Err-clause-flushed
returns-in-Err-clause-flushed g c = (WriteFailed, c.code.ensures, inl refl)

pub returns-in-Ok-clause-check_complete : goal.returns-in-Ok-clause-check_complete
returns-in-Ok-clause-check_complete g c = λ core bytes is known core_read written.
    c.run_uncounted-code.ensures.check_complete core bytes is known core_read (λ rose. written (omega (arith, rose, c.in-Ok.ensures.faults)))

pub returns-in-Err-clause-checked : goal.returns-in-Err-clause-checked
returns-in-Err-clause-checked g c = λ core is. (WriteFailed, c.code.ensures, inl refl)

pub returns-in-Err-clause-generated : goal.returns-in-Err-clause-generated
returns-in-Err-clause-generated g c = λ seed count is. (WriteFailed, c.code.ensures, (inr (inr (inl refl)), inl refl))
