use Rattle.std.proofs.Common.{◌≡◌}
use Rattle.std.specs.Prelude.{Ok}
use Rattle.elf_core.specs.Cores.{core_of}
use Rattle.rights.specs.Run.{core_limit}
use Rattle.rights.specs.Stopping.{ChecksCore, stop_of_core}
use Rattle.rights.proofs.CheckedCores.{check-accepted, check-long, check-refused}
use Rattle.rights.proofs.FileReading.{stands}
use Rattle.rights.proofs.Finishing.{by_err}
use Rattle.rights.proofs.checking.core_text.Goals as goal

pub returns-then-file-clause-checks : goal.returns-then-file-clause-checks
returns-then-file-clause-checks g c =
    let read = stands (g.S.Shelf.known c.args.shelf.now c.args.core.now) core_limit _ c.in_ok-file.file.bytes.items c.in_ok-file.file.cut c.in_ok-file.file.bytes.ok.0
    c.in_ok-file.ensures.whole c.in_ok-file.ensures.missing c.in_ok-file.ensures.bound c.in_ok-file.ensures.cut in
    check-long (g.S.Shelf.known c.args.shelf.now c.args.core.now) c.in_ok-file.file.bytes.items c.in_ok-file.file.cut read c.if-file.true

pub returns-then-file-clause-reads : goal.returns-then-file-clause-reads
returns-then-file-clause-reads g c = record {
  known = c.in_ok-file.ensures.known;
  reach = λ n other. c.in_ok-file.ensures.others n other;
  faults = c.in_ok-file.ensures.count;
}

pub returns-in_err-core-clause-checks : goal.returns-in_err-core-clause-checks
returns-in_err-core-clause-checks g c =
    let read = rw c.if-file.false at
    (stands (g.S.Shelf.known c.args.shelf.now c.args.core.now) core_limit _ c.in_ok-file.file.bytes.items c.in_ok-file.file.cut c.in_ok-file.file.bytes.ok.0
    c.in_ok-file.ensures.whole c.in_ok-file.ensures.missing c.in_ok-file.ensures.bound c.in_ok-file.ensures.cut) in
    by_err (λ r. ChecksCore (g.S.Shelf.known c.args.shelf.now c.args.core.now) r)
    c.from_residual-in_err-core.result (stop_of_core c.in_err-core.field-0.0) c.from_residual-in_err-core.ensures.1
    (check-refused (g.S.Shelf.known c.args.shelf.now c.args.core.now) c.in_ok-file.file.bytes.items c.in_err-core.field-0.0 read
    (rw c.deref.ensures.value at c.in_err-core.ensures.refused))

pub returns-clause-checks : goal.returns-clause-checks
returns-clause-checks g c =
    let read = rw c.if-file.false at
    (stands (g.S.Shelf.known c.args.shelf.now c.args.core.now) core_limit _ c.in_ok-file.file.bytes.items c.in_ok-file.file.cut c.in_ok-file.file.bytes.ok.0
    c.in_ok-file.ensures.whole c.in_ok-file.ensures.missing c.in_ok-file.ensures.bound c.in_ok-file.ensures.cut) in
    let is : core_of c.in_ok-file.file.bytes.items ≡ Ok c.in_ok-core.core = rw c.deref.ensures.value at c.in_ok-core.ensures.ok in
    check-accepted (g.S.Shelf.known c.args.shelf.now c.args.core.now) c.in_ok-file.file.bytes.items c.write_core_line.new.line c.in_ok-core.core read is c.write_core_line.ensures
