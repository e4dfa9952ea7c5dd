use Rattle.std.proofs.Common.{◌≡◌, ◌∙◌, ◌≤◌, ◌<◌, arith, length, length-append, drop, take, ◌++◌}
use Rattle.std.proofs.lemmas.Grind.{common_steps}
use Rattle.std.proofs.lemmas.List.{length-take-le}
use Rattle.outside.specs.declared.shelf.Failed.{Failed}
use Rattle.rights.proofs.LogPieces.{nothing_after, piece_after}
use Rattle.rights.proofs.log_reading.next_piece.Goals as goal

pub returns-in-Ok-eq0-clause-piece : goal.returns-in-Ok-eq0-clause-piece
returns-in-Ok-eq0-clause-piece g c = λ before at has.
    nothing_after Failed (g.S.Shelf.known c.args.shelf.now c.args.log.now) before c.args.read c.in-Ok-eq0.field-0 c.read_at.new.into at has c.in-Ok-eq0.ensures.content
    c.in-Ok-eq0.field-0-test (omega (arith, c.read_at.auto.into))

pub returns-in-Ok-eq0-read_at-clause-piece : goal.returns-in-Ok-eq0-read_at-clause-piece
returns-in-Ok-eq0-read_at-clause-piece g c = λ before at has.
    let within : c.min-room.result ≤ length c.args.buffer.now = omega (arith, c.min-room.ensures) in
    let room : 0 < c.min-room.result = omega (arith, c.min-room.ensures, c.requires.room, c.requires.limit, c.if-read-eq-LOG_LIMIT.false) in
    let size : length c.read_at-2.new.into ≡ c.min-room.result = c.read_at-2.auto.into ∙ length-take-le c.min-room.result c.args.buffer.now within in
    nothing_after Failed (g.S.Shelf.known c.args.shelf.now c.args.log.now) before c.args.read c.in-Ok-eq0-read_at.field-0 c.read_at-2.new.into at has
    c.in-Ok-eq0-read_at.ensures.content c.in-Ok-eq0-read_at.field-0-test (omega (arith, size, room))

pub returns-in-Ok-read_at-clause-piece : goal.returns-in-Ok-read_at-clause-piece
returns-in-Ok-read_at-clause-piece g c = λ before at has.
    let within : c.min-room.result ≤ length c.args.buffer.now = omega (arith, c.min-room.ensures) in
    let size : length c.read_at-2.new.into ≡ c.min-room.result = c.read_at-2.auto.into ∙ length-take-le c.min-room.result c.args.buffer.now within in
    let all : c.in-Ok-read_at.count ≤ length (c.read_at-2.new.into ++ drop c.min-room.result c.args.buffer.now) =
    omega (arith, c.in-Ok-read_at.ensures.within, length-append c.read_at-2.new.into (drop c.min-room.result c.args.buffer.now)) in (
      all,
      piece_after Failed (g.S.Shelf.known c.args.shelf.now c.args.log.now) before
          (take c.in-Ok-read_at.count (c.read_at-2.new.into ++ drop c.min-room.result c.args.buffer.now)) c.args.read c.in-Ok-read_at.count c.read_at-2.new.into at has
          c.in-Ok-read_at.ensures.content (grind (arith, common_steps, c.in-Ok-read_at.ensures.within)) c.in-Ok-read_at.ensures.within
          (omega (arith, c.in-Ok-read_at.count-test)) (omega (arith, size, c.in-Ok-read_at.ensures.within, c.min-room.ensures, c.requires.limit)),
    )
