use Rattle.std.proofs.Common.{◌≡◌}
use Rattle.std.specs.Prelude.{None}
use Rattle.edit_log.specs.declared.line_forms.LineFault.TheVariants.{TooLong, Syntax}
use Rattle.edit_log.proofs.Taking.{gives-event, passes-all, refuses-line, runs-out}
use Rattle.edit_log.proofs.lines.Lines.next.Goals as goal

pub returns-in_default-line-clause-none : goal.returns-in_default-line-clause-none
returns-in_default-line-clause-none c = λ is.
    let unrefused : c.args.self.now.refused ≡ None = cc in
    let next = c.next_line-before.result in
    passes-all c.args.self.now c.pass.new.self next.before next.count c.next_line-before.ensures.skips
    (rw c.in_default-line.is at c.next_line-before.ensures.none) unrefused c.pass.ensures

pub returns-clause-event : goal.returns-clause-event
returns-clause-event c = λ event is.
    let unrefused : c.args.self.now.refused ≡ None = cc in
    let next = c.next_line-before.result in
    gives-event c.args.self.now c.settle.new.self c.event_of-read.result next.before next.count next.after c.in-Some-line.line.now event
    c.next_line-before.ensures.skips (rw c.in-Some-line.is at c.next_line-before.ensures.some) c.event_of-read.ensures unrefused c.settle.ensures is

pub returns-clause-too_long : goal.returns-clause-too_long
returns-clause-too_long c = λ is unrefused.
    let next = c.next_line-before.result in
    refuses-line c.args.self.now c.settle.new.self next.before next.count next.after c.in-Some-line.line.now TooLong
    c.next_line-before.ensures.skips (rw c.in-Some-line.is at c.next_line-before.ensures.some) (rw is at c.event_of-read.ensures) (rw is at c.settle.ensures)

pub returns-clause-syntax : goal.returns-clause-syntax
returns-clause-syntax c = λ is unrefused.
    let next = c.next_line-before.result in
    refuses-line c.args.self.now c.settle.new.self next.before next.count next.after c.in-Some-line.line.now Syntax
    c.next_line-before.ensures.skips (rw c.in-Some-line.is at c.next_line-before.ensures.some) (rw is at c.event_of-read.ensures) (rw is at c.settle.ensures)

pub returns-clause-memory : goal.returns-clause-memory
returns-clause-memory c = λ is.
    let next = c.next_line-before.result in
    rw (rw is at c.settle.ensures) (runs-out c.args.self.now next.before next.count next.after c.in-Some-line.line.now
    c.next_line-before.ensures.skips (rw c.in-Some-line.is at c.next_line-before.ensures.some) (rw is at c.event_of-read.ensures))
