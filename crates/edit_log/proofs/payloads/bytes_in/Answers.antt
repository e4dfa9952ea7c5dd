use Rattle.std.proofs.Common.{◌++◌, ◌+◌, ◌*◌, drop, get_or, sym, ap, ◌∙◌, arith}
use Rattle.std.proofs.lemmas.Grind.{common_steps}
use Rattle.std.specs.Prelude.{option_map}
use Rattle.edit_log.specs.LogLine.{bytes_of}
use Rattle.edit_log.proofs.HexPairs.{bytes-odd, bytes-more, pair_at}
use Rattle.edit_log.proofs.payloads.bytes_in.Goals as goal

pub returns-then-count-word-clause-value : goal.returns-then-count-word-clause-value
returns-then-count-word-clause-value c = sym (bytes-odd c.args.word.now (omega (arith, c.if-count-word.true)))

pub loop-i-preserved : goal.loop-i-preserved
loop-i-preserved c =
    let word = c.args.word.now in
    let i = c.loop-i.i in
    let done = c.loop-i.bytes.items in
    let rest = drop (2 * (i + 1)) word in
    let pair = ap (λ x. option_map (λ more. done ++ more) (bytes_of x)) (pair_at word i (omega (arith, c.loop-i-test.true))) in
    record {
      same = bytes-more word done rest (get_or word (2 * i) 0) (get_or word (2 * i + 1) 0) c.in-Some.byte (c.loop-i.invariant.same ∙ pair) (sym c.in-Some.ensures)
          ∙ ap (λ items. option_map (λ more. items ++ more) (bytes_of rest)) (sym c.push_reserved.ensures.items);
      count = grind (arith, common_steps);
      room = grind (arith, common_steps);
    }
