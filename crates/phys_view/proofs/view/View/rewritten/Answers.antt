use Rattle.std.proofs.Common.{sym}
use Rattle.phys_view.proofs.Pages.{bytes_from-none, bytes_from-some}
use Rattle.phys_view.proofs.view.View.rewritten.Goals as goal

pub returns-in_err-block-clause-value : goal.returns-in_err-block-clause-value
returns-in_err-block-clause-value g c =
    rw (c.from_residual.ensures, sym c.self.view_is) (sym (bytes_from-none c.args.at _ (sym c.in_err-block.ensures)))

pub returns-clause-value : goal.returns-clause-value
returns-clause-value g c =
    rw (c.bytes.ensures.value, sym c.self.view_is) (bytes_from-some c.args.at _ _ (sym c.in_ok-block.ensures))
