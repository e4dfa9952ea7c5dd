use Rattle.std.proofs.Common.{◌∙◌, sym, arith}
use Rattle.block_map.proofs.Pages.{find-pages}
use Rattle.block_map.proofs.map.BlockMap.get.Goals as goal

pub returns : goal.returns
returns c =
    rw (sym c.self.view_is) (c.get.ensures ∙ sym (find-pages _ _ c.args.number (omega arith)))
