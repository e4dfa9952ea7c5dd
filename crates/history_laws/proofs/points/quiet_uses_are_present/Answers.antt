use Rattle.history_laws.proofs.QuietLaws.{used_is_present}
use Rattle.history_laws.proofs.points.quiet_uses_are_present.Goals as goal

pub returns : goal.returns
returns c history p pcid level page held known quiet is_known is_page may_use =
    used_is_present history p pcid page level held known quiet is_known is_page.aligned may_use
