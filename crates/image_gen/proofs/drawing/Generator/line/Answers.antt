use Rattle.std.proofs.Common.{◌≡◌, ap, arith, ◌∙◌, sym}
use Rattle.image_gen.specs.GeneratedLog.{Drawn, line_after, numbered_line}
use Rattle.image_gen.proofs.DrawnLines.{numbered-line-drawn}
use Rattle.image_gen.proofs.drawing.Generator.line.Goals as goal

pub is-drawn : (c : goal.After-drawn_line) → numbered_line c.args.number c.args.self.now.state ≡ line_after c.args.self.now.state
is-drawn c =
    numbered-line-drawn c.args.number c.args.self.now.state (omega arith) (omega arith) (omega arith) (omega arith)

pub returns-in_default-clause-value : goal.returns-in_default-clause-value
returns-in_default-clause-value c = c.drawn_line.ensures.value ∙ ap (λ (drawn : Drawn). drawn.0) (sym (is-drawn c))

pub returns-in_default-clause-state : goal.returns-in_default-clause-state
returns-in_default-clause-state c = c.drawn_line.ensures.state ∙ ap (λ (drawn : Drawn). drawn.1) (sym (is-drawn c))
