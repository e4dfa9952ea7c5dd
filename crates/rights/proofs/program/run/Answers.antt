use Rattle.std.proofs.Common.{inl, inr, refl, rules}
use Rattle.std.specs.Prelude.{◌⊎◌}
use Rattle.rights.specs.Reads.{FailedToRead, FailsOnlyBy}
use Rattle.rights.specs.Run.{EndsForFiles, IsUnread}
use Rattle.outside.specs.Count.{Rose}
use Rattle.rights.proofs.Completeness.{complete}
use Rattle.rights.proofs.program.run.Goals as goal

pub returns-in-Some-Run-clause-complete : goal.returns-in-Some-Run-clause-complete
returns-in-Some-Run-clause-complete g c = λ core log core_bytes log_bytes form core_is log_is core_read log_read written.
    let ends : IsUnread (g.K.Sink.pieces c.args.out.now) (g.K.Sink.pieces c.answer.new.out) c.answer.result
    ⊎ EndsForFiles (g.S.Shelf.known c.args.shelf.now core) (g.S.Shelf.known c.args.shelf.now log) (g.K.Sink.pieces c.args.out.now)
    (g.K.Sink.pieces c.answer.new.out) c.answer.result = search rules in
    let causes : FailsOnlyBy
    (FailedToRead (g.S.Shelf.known c.args.shelf.now) (g.S.Shelf.faults c.args.shelf.now) (g.S.Shelf.faults c.answer.new.shelf) core log)
    (Rose (g.K.Sink.faults c.args.out.now) (g.K.Sink.faults c.answer.new.out)) c.answer.result = search rules in (
      c.answer.result,
      c.code.ensures,
      complete _ _ core_bytes log_bytes _ _ c.answer.result core_is log_is
          (λ failed. elim (causes.read_failed failed) [ inl one ↦ core_read one | inr other ↦ log_read other.0 ])
          (λ failed. written (causes.write_failed failed)) ends,
    )

pub returns-in-None-clause-usage : goal.returns-in-None-clause-usage
returns-in-None-clause-usage g c = λ none. (c.finish.result, c.code-in-None.ensures, (c.finish.ensures.usage refl, c.finish.ensures.puts))
