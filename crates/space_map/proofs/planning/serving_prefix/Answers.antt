use Rattle.std.proofs.Common.{◌∙◌, sym}
use Rattle.space_map.proofs.CoveredUses.{serves-lower}
use Rattle.space_map.proofs.planning.serving_prefix.Goals as goal

pub returns : goal.returns
returns c table is serving =
    serves-lower c.args.settings.now c.args.level c.args.address c.span-served.result c.requires.most
    (λ top. c.if-level-top_level.false (top ∙ sym c.top_level.ensures.value)) c.span-served.ensures.value table is serving
