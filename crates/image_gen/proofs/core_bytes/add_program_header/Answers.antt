use Rattle.image_gen.specs.GeneratedCore.{word, xword, zero_bytes}
use Rattle.image_gen.proofs.CoreBytes.{six-appended}
use Rattle.image_gen.proofs.core_bytes.add_program_header.Goals as goal

pub returns : goal.returns
returns c =
    six-appended (word c.args.kind) (zero_bytes 4) (xword c.args.offset) (zero_bytes 16) (xword c.args.size) (zero_bytes 16) _ _ _ _ _ _ _
    c.in_ok-add_word.ensures c.in_ok-add_zeros.ensures c.in_ok-add_xword.ensures c.in_ok-add_zeros-2.ensures
    c.in_ok-add_xword-2.ensures c.in_ok-add_zeros-3.ensures
