use Rattle.std.proofs.Common.{◌≡◌, sym, ap, take, arith}
use Rattle.std.proofs.lemmas.Grind.{common_steps}
use Rattle.std.specs.Prelude.{is_some}
use Rattle.edit_log.proofs.HexPairs.{bytes-odd, bytes-not_digit, bytes-all_digits, digits-more}
use Rattle.edit_log.proofs.payloads.spells_bytes.Goals as goal

pub returns-then-word-ne0 : goal.returns-then-word-ne0
returns-then-word-ne0 c = sym (ap is_some (bytes-odd c.args.word.now c.if-word-ne0.true))

pub returns-in_default : goal.returns-in_default
returns-in_default c = bytes-not_digit c.args.word.now c.loop-character.character-index c.loop-character-test.true (sym c.in_default.ensures.value)

pub loop-character-preserved : goal.loop-character-preserved
loop-character-preserved c =
    digits-more c.args.word.now c.loop-character.character-index c.in-Some.field-0 c.loop-character-test.true c.loop-character.invariant c.in-Some.ensures.value

pub returns : goal.returns
returns c =
    let whole : take c.loop-character.character-index c.args.word.now ≡ c.args.word.now = grind (arith, common_steps) in
    bytes-all_digits c.args.word.now c.if-word-ne0.false (rw whole at c.loop-character.invariant)
