use Rattle.std.proofs.Common.{rules, arith, ◌≡◌, ◌+◌, ◌-◌, ◌/◌, ◌%◌, ◌^◌, ◌<◌, ◌≤◌, ◌++◌, false, refl, ap, ◌∙◌, length}
use Rattle.std.specs.Fmt.{digits}
use Rattle.std.proofs.Math.Nat.{div-le_self, div-lt_self}
use Rattle.std.proofs.lemmas.List.{length-set}
use Rattle.rights_report.proofs.Digits.{digit-put, few-digits, fewer, first-digit-put, some-place}
use Rattle.rights_report.proofs.LineStarts.{length-line, start-least}
use Rattle.rights_report.proofs.line_buffer.LineBuffer.put_digits.Goals as goal

pub loop-rest-init : goal.loop-rest-init
loop-rest-init c = record {
  whole = c.self.told;
  same = refl;
  at = omega arith;
  left = omega arith;
  few = few-digits c.args.base c.args.number _ c.requires.least c.ranges.number.fits (omega arith);
  shown = refl;
}

pub overflow_sub-at : goal.overflow_sub-at
overflow_sub-at c =
    let room = start-least c.self.inside.start c.self.inside.bytes c.args.self.now c.self.told c.self.view_is c.requires.room in
    omega (arith, room, c.loop-rest.invariant)

pub bounds-self-inside-at : goal.bounds-self-inside-at
bounds-self-inside-at c = omega (arith, c.self.invariant, c.loop-rest.invariant)

pub loop-rest-smaller : goal.loop-rest-smaller
loop-rest-smaller c =
    let some : 0 < c.loop-rest.rest / c.args.base = grind (arith, c.if-rest-eq0.false) in
    let most = div-le_self c.loop-rest.rest c.args.base in
    let larger : 1 < c.args.base = omega (arith, c.requires.least) in
    div-lt_self (omega (arith, some, most)) larger

pub loop-rest-preserved : goal.loop-rest-preserved
loop-rest-preserved c =
    let room = start-least c.self.inside.start c.self.inside.bytes c.args.self.now c.self.told c.self.view_is c.requires.room in
    let places : c.loop-rest.at + 20 - c.self.inside.start ≡ c.loop-rest.at - 1 + 20 - c.self.inside.start + 1 =
    omega (arith, room, c.loop-rest.invariant) in
    let few = fewer c.args.base c.loop-rest.rest (c.loop-rest.at - 1 + 20 - c.self.inside.start) (omega (arith, c.requires.least))
    (rw places at c.loop-rest.invariant.few) in
    let some = some-place c.args.base (c.loop-rest.rest / c.args.base) _ few c.if-rest-eq0.false in
    record {
      whole = length-set _ _ _ ∙ c.loop-rest.invariant.whole;
      same = c.loop-rest.invariant.same;
      at = omega (arith, c.loop-rest.invariant);
      left = omega (arith, room, some);
      few = few;
      shown = digit-put c.args.base c.loop-rest.rest c.loop-rest.at c.digit.result c.loop-rest.self-inside.bytes
          (omega (arith, room, c.loop-rest.invariant)) (omega (arith, c.self.invariant, c.loop-rest.invariant)) c.digit.ensures
          c.requires.least c.loop-rest.auto.rest-fits.fits c.if-rest-eq0.false ∙ c.loop-rest.invariant.shown;
    }

pub invariant_of-self : goal.invariant_of-self
invariant_of-self c = omega (arith, c.self.invariant, c.loop-rest.invariant)

pub returns-clause-value : goal.returns-clause-value
returns-clause-value c =
    let room = start-least c.self.inside.start c.self.inside.bytes c.args.self.now c.self.told c.self.view_is c.requires.room in
    first-digit-put c.args.base c.loop-rest.rest c.loop-rest.at c.digit.result c.loop-rest.self-inside.bytes
    (omega (arith, room, c.loop-rest.invariant)) (omega (arith, c.self.invariant, c.loop-rest.invariant)) c.digit.ensures
    c.if-rest-eq0.true ∙ c.loop-rest.invariant.shown
    ∙ ap (λ xs. digits c.args.base false c.args.number ++ xs) c.self.view_is

pub returns-clause-len : goal.returns-clause-len
returns-clause-len c =
    length-line c.self.inside.start (c.loop-rest.at - 1) c.self.inside.bytes _ c.args.self.now c.self.told
    (length-set _ _ _ ∙ c.loop-rest.invariant.whole) c.self.view_is (omega (arith, c.loop-rest.invariant))
