use Rattle.std.proofs.Common.{ap, sym, ◌∙◌, refl, Some}
use Rattle.phys_view.proofs.Numbers.{entry_among}
use Rattle.phys_view.proofs.entries.Entries.get.Goals as goal

pub returns-in-Some : goal.returns-in-Some
returns-in-Some g c =
    let within = rw (sym c.self.view_is) at c.requires in
    let stand = c.self.invariant.stand c.in-Some.bytes c.in-Some.is in
    rw (sym c.self.view_is) (ap Some c.read_u64.ensures ∙ sym (entry_among _ _ _ c.args.place _ stand within))
