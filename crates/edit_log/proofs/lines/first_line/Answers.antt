use Rattle.std.proofs.Common.{◌≡◌, [], true, arith, inl, inr}
use Rattle.std.proofs.lemmas.Bool.{eqb-true}
use Rattle.std.proofs.lemmas.Grind.{common_steps}
use Rattle.edit_log.proofs.Passing.{has-line, has-no_line, no_feeds, no_feeds_before, unended-line}
use Rattle.edit_log.proofs.lines.first_line.Goals as goal
use Rattle.edit_log.proofs.lines.first_line.Goals.{then-finished+else-not-is_empty, else-finished}

pub returns-in-Some-clause-some : goal.returns-in-Some-clause-some
returns-in-Some-clause-some c =
    let first = c.in-Some.ensures.0 in
    inl (has-line c.args.finished c.args.bytes.now c.in-Some.end first.high (eqb-true _ 10 c.in-Some.ensures.1)
    (no_feeds_before c.args.bytes.now c.in-Some.end (omega (arith, first.high)) first.before))

pub returns-in-None-clause-some : goal.returns-in-None-clause-some
returns-in-None-clause-some c =
    unended-line c.args.finished c.args.bytes.now (no_feeds c.args.bytes.now c.in-None.ensures) (inr c.if-bytes-gt-LINE_LIMIT.true)

pub returns-in-None-2-clause-some : goal.returns-in-None-2-clause-some
returns-in-None-2-clause-some c =
    unended-line c.args.finished c.args.bytes.now (no_feeds c.args.bytes.now c.in-None-2.ensures) (inl (c.if-finished.true, grind (arith, common_steps)))

pub returns-in-None-3-clause-none : goal.returns-in-None-3-clause-none
returns-in-None-3-clause-none c =
    let all : c.args.finished ≡ true → c.args.bytes.now ≡ [] = elim c.if-finished.branch [
      | then-finished+else-not-is_empty w ↦ λ last. grind (arith, common_steps)
      | else-finished w ↦ λ last. absurd cc
    ] in
    record {
      has = has-no_line c.args.finished c.args.bytes.now all (no_feeds c.args.bytes.now c.in-None-3.ensures);
      short = c.if-bytes-gt-LINE_LIMIT.false;
    }
