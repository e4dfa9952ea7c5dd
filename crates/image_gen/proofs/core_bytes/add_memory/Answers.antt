use Rattle.std.proofs.Common.{ℕ, ◌*◌, ◌++◌, List, ap, sym, ◌∙◌, arith}
use Rattle.image_gen.specs.GeneratedCore.{memory_from, stands_at, xword}
use Rattle.image_gen.proofs.CoreBytes.{appended, memory-of, slots-more}
use Rattle.image_gen.proofs.core_bytes.add_memory.Goals as goal

pub loop-index-preserved : goal.loop-index-preserved
loop-index-preserved c =
    appended c.args.bytes.now.items c.loop-index.bytes.items c.add_xword.new.bytes.items
    (memory_from 0 c.loop-index.index) (xword (stands_at (8 * c.loop-index.index)))
    c.loop-index.invariant
    (c.in_ok-add_xword.ensures ∙ ap (λ (entry : ℕ). c.loop-index.bytes.items ++ xword entry) c.stands_at.ensures)
    ∙ ap (λ (xs : List ℕ). c.args.bytes.now.items ++ xs) (sym (slots-more c.loop-index.index))

pub returns : goal.returns
returns c = c.loop-index.invariant ∙ ap (λ (xs : List ℕ). c.args.bytes.now.items ++ xs) (memory-of c.loop-index.index (omega arith))
