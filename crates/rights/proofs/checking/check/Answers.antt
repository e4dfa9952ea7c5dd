use Rattle.std.proofs.Common.{◌≡◌, ℕ, List, ap, sym, ◌∙◌, subst, inl, inr}
use Rattle.std.specs.Prelude.{Err}
use Rattle.rights.specs.Ends.{Ends}
use Rattle.rights.specs.Jobs.{one_line}
use Rattle.rights.specs.declared.statuses.Status.TheVariants.{Answered, OutOfMemory, ReadFailed, Usage, WriteFailed}
use Rattle.rights.proofs.CheckedCores.{check-unput, check-used, line-ends, stop-ends}
use Rattle.rights.proofs.Finishing.{last-read, read-failed}
use Rattle.rights.proofs.checking.check.Goals as goal

pub returns-in-Ok-clause-ends : goal.returns-in-Ok-clause-ends
returns-in-Ok-clause-ends g c =
    inr (line-ends (g.S.Shelf.known c.args.shelf.now c.args.core.now) (g.K.Sink.pieces c.args.out.now) (g.K.Sink.pieces c.put_last.new.out) c.in-Ok.line c.put_last.result
    c.in-Ok.ensures.checks
    (subst (λ (text : List ℕ). Ends (one_line text Answered) (g.K.Sink.pieces c.args.out.now) (g.K.Sink.pieces c.put_last.new.out) c.put_last.result)
    c.bytes.ensures c.put_last.ensures.puts))

pub returns-in-Ok-clause-causes : goal.returns-in-Ok-clause-causes
returns-in-Ok-clause-causes g c = record {
  read_failed = λ failed. elim c.put_last.ensures.among [
    | inl same ↦ absurd (let never : Answered ≡ ReadFailed = sym same ∙ failed in cc)
    | inr put ↦ absurd (let never : WriteFailed ≡ ReadFailed = sym put ∙ failed in cc)
  ];
  write_failed = c.put_last.ensures.cause;
}

pub returns-in-Err-clause-ends : goal.returns-in-Err-clause-ends
returns-in-Err-clause-ends g c =
    stop-ends (g.S.Shelf.known c.args.shelf.now c.args.core.now) (g.K.Sink.pieces c.args.out.now) (g.K.Sink.pieces c.finish.new.out) c.in-Err.stop c.finish.result
    c.in-Err.ensures.checks c.finish.ensures.puts

pub returns-in-Err-clause-causes : goal.returns-in-Err-clause-causes
returns-in-Err-clause-causes g c = record {
  read_failed = λ failed.
      c.in-Err.ensures.cause (ap Err (read-failed c.in-Err.stop (last-read c.in-Err.stop c.finish.result c.finish.ensures.among failed)));
  write_failed = λ failed. elim (c.finish.ensures.cause failed) [
    | inl before ↦ absurd (check-unput (g.S.Shelf.known c.args.shelf.now c.args.core.now) c.in-Err.stop c.in-Err.ensures.checks before)
    | inr rose ↦ rose
  ];
}

pub returns-in-Err-clause-never : goal.returns-in-Err-clause-never
returns-in-Err-clause-never g c is = elim c.finish.ensures.among [
  | inl same ↦ check-used (g.S.Shelf.known c.args.shelf.now c.args.core.now) c.in-Err.stop c.in-Err.ensures.checks (sym same ∙ is)
  | inr other ↦ elim other [
    | inl put ↦ absurd (let never : WriteFailed ≡ Usage = sym put ∙ is in cc)
    | inr memory ↦ absurd (let never : OutOfMemory ≡ Usage = sym memory ∙ is in cc)
  ]
]
