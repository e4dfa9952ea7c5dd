use Rattle.std.proofs.Common.{Some, ap, sym, ◌∙◌, arith, ◌+◌}
use Rattle.phys_view.proofs.Known.{unknown-is}
use Rattle.phys_view.proofs.Numbers.{entry_at-known, entry_at-unknown}
use Rattle.phys_view.proofs.Shown.{shown-chosen}
use Rattle.phys_view.proofs.view.View.known_entry.Goals as goal

pub returns-in_default : goal.returns-in_default
returns-in_default g c =
    let here = c.in_default.ensures.each 0 c.in_default.ensures.some in
    rw (sym c.self.view_is) (sym (entry_at-unknown _ c.args.at 0 (omega arith) (unknown-is (record { extents = c.self.inside.segments; written = c.self.inside.written }) (c.args.at + 0) here)))

pub returns : goal.returns
returns g c =
    let current = rw (sym c.self.view_is) at c.rewritten.ensures.value in
    rw (sym c.self.view_is) (ap Some c.read_u64.ensures ∙ sym (entry_at-known _ c.args.at c.unwrap_or-bytes.result.now (λ k within.
    rw c.unwrap_or-bytes.ensures (shown-chosen _ _ k c.rewritten.result c.in-Known.bytes current c.in-Known.ensures (omega (arith, c.if-bytes-lt8.false)) (omega (arith, c.requires))))))
