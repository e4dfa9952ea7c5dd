use Rattle.std.proofs.Common.{◌≡◌, inl, inr, refl, ◌∙◌, subst}
use Rattle.outside.proofs.Counts.{Rose-earlier}
use Rattle.std.specs.Prelude.{◌⊎◌, Ok}
use Rattle.audit_core.specs.Standing.{core_start}
use Rattle.elf_core.specs.Cores.{core_of}
use Rattle.history_model.specs.History.{begun}
use Rattle.rights_report.specs.FixedLines.{core_too_long_line}
use Rattle.rights.specs.Run.{core_limit, IsAccepted, IsUnread}
use Rattle.rights.specs.Stopping.{end_of, stop_of_core, StopsForFiles}
use Rattle.rights.specs.declared.stopping.Stop.TheVariants.{LongCore}
use Rattle.rights.proofs.FileReading.{core_by, fails-after, for_files, is_accepted, limit_of, long_core, refused-core, stands, stops-core, stops-refused, within_of}
use Rattle.rights.proofs.Completeness.{may_be-known}
use Rattle.rights.proofs.Finishing.{by_err}
use Rattle.rights.proofs.program.answer_files.Goals as goal

pub returns-then-file-clause-ends : goal.returns-then-file-clause-ends
returns-then-file-clause-ends g c =
    let read = stands (g.S.Shelf.known c.args.shelf.now c.args.core.now) core_limit _ c.in_ok-file.file.bytes.items c.in_ok-file.file.cut c.in_ok-file.file.bytes.ok.0
    c.in_ok-file.ensures.whole c.in_ok-file.ensures.missing c.in_ok-file.ensures.bound c.in_ok-file.ensures.cut in
    inr (stops-refused _ _ _ LongCore core_too_long_line refl refl
    (refused-core _ _ _ read.content core_too_long_line read.may_be (long_core read.content (read.cut_is ∙ c.if-file.true))))

pub returns-then-file-clause-reads : goal.returns-then-file-clause-reads
returns-then-file-clause-reads g c = record {
  known = c.in_ok-file.ensures.known;
  reach = λ n other. c.in_ok-file.ensures.others n (λ same. other (inl same));
  faults = c.in_ok-file.ensures.count;
}

pub returns-in_err-core-clause-ends : goal.returns-in_err-core-clause-ends
returns-in_err-core-clause-ends g c =
    let read = rw c.if-file.false at
    (stands (g.S.Shelf.known c.args.shelf.now c.args.core.now) core_limit _ c.in_ok-file.file.bytes.items c.in_ok-file.file.cut c.in_ok-file.file.bytes.ok.0
    c.in_ok-file.ensures.whole c.in_ok-file.ensures.missing c.in_ok-file.ensures.bound c.in_ok-file.ensures.cut) in
    by_err (λ r. IsUnread (g.K.Sink.pieces c.args.out.now) (g.K.Sink.pieces c.args.out.now) (end_of r)
    ⊎ StopsForFiles (g.S.Shelf.known c.args.shelf.now c.args.core.now) (g.S.Shelf.known c.args.shelf.now c.args.log.now)
    (g.K.Sink.pieces c.args.out.now) (g.K.Sink.pieces c.args.out.now) r)
    c.from_residual-in_err-core.result (stop_of_core c.in_err-core.field-0.0) c.from_residual-in_err-core.ensures.1
    (stops-core _ _ (g.K.Sink.pieces c.args.out.now) c.in_ok-file.file.bytes.items c.in_err-core.field-0.0 read (rw c.deref.ensures.value at c.in_err-core.ensures.refused))

pub answer_log-requires : goal.answer_log-requires
answer_log-requires g c = (core_start c.in_ok-core.core, c.in_ok-session.ensures)

pub returns-clause-ends : goal.returns-clause-ends
returns-clause-ends g c =
    let read = rw c.if-file.false at
    (stands (g.S.Shelf.known c.args.shelf.now c.args.core.now) core_limit _ c.in_ok-file.file.bytes.items c.in_ok-file.file.cut c.in_ok-file.file.bytes.ok.0
    c.in_ok-file.ensures.whole c.in_ok-file.ensures.missing c.in_ok-file.ensures.bound c.in_ok-file.ensures.cut) in
    let is : core_of c.in_ok-file.file.bytes.items ≡ Ok c.in_ok-core.core = rw c.deref.ensures.value at c.in_ok-core.ensures.ok in
    elim (rw (c.in_ok-file.ensures.known c.args.log.now) at (c.answer_log.ensures.ends (begun (core_start c.in_ok-core.core)) c.in_ok-session.ensures)) [
      | inl unread ↦ inl unread
      | inr log ↦
          inr (for_files _ _ (g.K.Sink.pieces c.args.out.now) (g.K.Sink.pieces c.answer_log.new.out) c.answer_log.result
          c.in_ok-file.file.bytes.items c.in_ok-core.core (within_of _ core_limit c.in_ok-file.file.bytes.items read)
          (core_by c.in_ok-file.file.bytes.items (Ok c.in_ok-core.core) (limit_of _ core_limit c.in_ok-file.file.bytes.items read) is) log)
    ]

pub returns-clause-causes : goal.returns-clause-causes
returns-clause-causes g c =
    let read = rw c.if-file.false at
    (stands (g.S.Shelf.known c.args.shelf.now c.args.core.now) core_limit _ c.in_ok-file.file.bytes.items c.in_ok-file.file.cut c.in_ok-file.file.bytes.ok.0
    c.in_ok-file.ensures.whole c.in_ok-file.ensures.missing c.in_ok-file.ensures.bound c.in_ok-file.ensures.cut) in
    let is : core_of c.in_ok-file.file.bytes.items ≡ Ok c.in_ok-core.core = rw c.deref.ensures.value at c.in_ok-core.ensures.ok in
    let core_is = core_by c.in_ok-file.file.bytes.items (Ok c.in_ok-core.core) (limit_of _ core_limit c.in_ok-file.file.bytes.items read) is in
    record {
      read_failed = λ failed.
          inr (
            Rose-earlier _ _ _ (c.in_ok-file.ensures.count c.args.log.now) (c.answer_log.ensures.causes.read_failed failed),
            (
              c.in_ok-file.file.bytes.items,
              within_of _ core_limit c.in_ok-file.file.bytes.items read,
              is_accepted c.in_ok-file.file.bytes.items c.in_ok-core.core core_is,
            ),
          );
      write_failed = c.answer_log.ensures.causes.write_failed;
    }

pub returns-clause-log_unread : goal.returns-clause-log_unread
returns-clause-log_unread g c = λ bytes known refused other.
    let read = rw c.if-file.false at
    (stands (g.S.Shelf.known c.args.shelf.now c.args.core.now) core_limit _ c.in_ok-file.file.bytes.items c.in_ok-file.file.cut c.in_ok-file.file.bytes.ok.0
    c.in_ok-file.ensures.whole c.in_ok-file.ensures.missing c.in_ok-file.ensures.bound c.in_ok-file.ensures.cut) in
    let is : core_of c.in_ok-file.file.bytes.items ≡ Ok c.in_ok-core.core = rw c.deref.ensures.value at c.in_ok-core.ensures.ok in
    let core_is = core_by c.in_ok-file.file.bytes.items (Ok c.in_ok-core.core) (limit_of _ core_limit c.in_ok-file.file.bytes.items read) is in
    let same : c.in_ok-file.file.bytes.items ≡ bytes = may_be-known _ bytes c.in_ok-file.file.bytes.items known (within_of _ core_limit c.in_ok-file.file.bytes.items read) in
    absurd (refused (subst (λ b. IsAccepted b) same (is_accepted c.in_ok-file.file.bytes.items c.in_ok-core.core core_is)))

pub returns-clause-read_failed : goal.returns-clause-read_failed
returns-clause-read_failed g c = λ bytes known failed.
    let read = rw c.if-file.false at
    (stands (g.S.Shelf.known c.args.shelf.now c.args.core.now) core_limit _ c.in_ok-file.file.bytes.items c.in_ok-file.file.cut c.in_ok-file.file.bytes.ok.0
    c.in_ok-file.ensures.whole c.in_ok-file.ensures.missing c.in_ok-file.ensures.bound c.in_ok-file.ensures.cut) in
    let is : core_of c.in_ok-file.file.bytes.items ≡ Ok c.in_ok-core.core = rw c.deref.ensures.value at c.in_ok-core.ensures.ok in
    fails-after (g.S.Shelf.known c.args.shelf.now c.args.core.now) c.args.core.now c.args.log.now c.in_ok-file.file.bytes.items bytes c.in_ok-core.core
    (within_of _ core_limit c.in_ok-file.file.bytes.items read)
    (core_by c.in_ok-file.file.bytes.items (Ok c.in_ok-core.core) (limit_of _ core_limit c.in_ok-file.file.bytes.items read) is)
    (c.in_ok-file.ensures.others c.args.log.now)
    (c.answer_log.ensures.read_failed (begun (core_start c.in_ok-core.core)) bytes c.in_ok-session.ensures (c.in_ok-file.ensures.known c.args.log.now ∙ known) failed)
