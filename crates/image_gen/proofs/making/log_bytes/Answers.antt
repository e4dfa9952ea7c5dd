use Rattle.std.proofs.Common.{◌+◌, ◌-◌, ◌∙◌, arith}
use Rattle.image_gen.proofs.LogBytes.{log-added, log-done}
use Rattle.image_gen.proofs.making.log_bytes.Goals as goal

pub loop-index-preserved : goal.loop-index-preserved
loop-index-preserved c =
    log-added (c.loop-index.index + 1) (c.args.count - c.loop-index.index) (c.args.count - (c.loop-index.index + 1))
    c.loop-index.generator.state c.line-line.new.self.state c.line-line.result c.loop-index.log.items c.add_line.new.log.items
    c.line-line.ensures.value c.line-line.ensures.state c.in_ok-add_line.ensures (omega arith)
    ∙ c.loop-index.invariant

pub returns : goal.returns
returns c = log-done (c.loop-index.index + 1) (c.args.count - c.loop-index.index) c.loop-index.generator.state c.loop-index.log.items (omega arith) ∙ c.loop-index.invariant
