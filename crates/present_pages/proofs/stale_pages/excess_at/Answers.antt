use Rattle.std.proofs.Common.{◌≡◌, ◌+◌, ◌%◌, refl, sym, ap, ◌∙◌}
use Rattle.paging_model.specs.AccessSets.{minus_of}
use Rattle.paging_model.specs.LinearAddress.{span}
use Rattle.present_pages.specs.PresentRanges.{mapping_of}
use Rattle.present_pages.proofs.Excesses.{excess-elsewhere, excess-more, excess-unmapped, other-set}
use Rattle.present_pages.proofs.stale_pages.excess_at.Goals.{in-Some+else-eq, in_default-2, in_default}
use Rattle.present_pages.proofs.stale_pages.excess_at.Goals as goal

pub returns : goal.returns
returns c =
    let frame_is : c.args.held.now.frame + c.args.page % c.span.result ≡ c.args.held.now.frame + c.args.page % span c.args.held.now.level =
    ap (λ s. c.args.held.now.frame + c.args.page % s) c.span.ensures.value in
    elim c.match-present.branch [
      | in-Some+else-eq w ↦ rw (w.in-Some.is, w.excess-is) (
        refl,
        excess-more c.args.regs.now c.args.held.now c.args.page _ c.rights_at-own.result frame_is c.rights_at-own.ensures (mapping_of w.in-Some.present) w.difference-more.result w.if-present-frame.true
            (w.difference-more.ensures ∙ ap (minus_of c.rights_at-own.result) w.rights_at.ensures)
            (other-set _ _ (sym w.eq.ensures ∙ w.if-eq.false) w.none.ensures.number),
      )
      | in_default-2 w ↦ rw (w.in-Some.is, w.excess-is)
          (refl, excess-elsewhere c.args.regs.now c.args.held.now c.args.page _ c.rights_at-own.result frame_is c.rights_at-own.ensures (mapping_of w.in-Some.present) w.if-present-frame.false)
      | in_default w ↦ rw (w.in_default.is, w.excess-is)
          (refl, excess-unmapped c.args.regs.now c.args.held.now c.args.page _ c.rights_at-own.result frame_is c.rights_at-own.ensures)
    ]
