use Rattle.std.proofs.Common.{◌∙◌, inr, refl, sym}
use Rattle.area_list.proofs.Listed.{keys-listed}
use Rattle.kept_spaces.proofs.Listed.{first-listed}
use Rattle.audit_core.proofs.SpaceLists.{kept-of, regions-of, within-of}
use Rattle.audit_core.proofs.listing.list.Goals as goal

pub areas_of-requires-clause-canonical : goal.areas_of-requires-clause-canonical
areas_of-requires-clause-canonical g c =
    let is = first-listed _ _ _ _ _ c.in-Ok.ensures.ok c.first.ensures in
    let regions = regions-of _ _ _ is in
    rw (c.list-in-Ok.ensures.value ∙ c.regions.ensures) (rw c.settings.ensures at regions.stretches)

pub areas_of-requires-clause-keys : goal.areas_of-requires-clause-keys
areas_of-requires-clause-keys g c =
    let is = first-listed _ _ _ _ _ c.in-Ok.ensures.ok c.first.ensures in
    rw (c.list-in-Ok.ensures.value ∙ c.regions.ensures) (keys-listed _ _ _ _ (regions-of _ _ _ is))

pub returns-in_ok-areas-in-Ok-clause-value : goal.returns-in_ok-areas-in-Ok-clause-value
returns-in_ok-areas-in-Ok-clause-value g c =
    let is = first-listed _ _ _ _ _ c.in-Ok.ensures.ok c.first.ensures in
    let within = rw (c.settings.ensures, c.root.ensures.value) at (within-of _ _ _ is) in
    let regions = rw (c.settings.ensures, c.root.ensures.value, sym (c.list-in-Ok.ensures.value ∙ c.regions.ensures)) at (regions-of _ _ _ is) in
    inr (within, (c.in_ok-areas-in-Ok.areas, c.in_ok-areas-in-Ok.ensures.space _ _ regions, refl))

pub returns-in_ok-areas-in-Ok-clause-are_kept : goal.returns-in_ok-areas-in-Ok-clause-are_kept
returns-in_ok-areas-in-Ok-clause-are_kept g c =
    let is = first-listed _ _ _ _ _ c.in-Ok.ensures.ok c.first.ensures in
    kept-of _ c.args.machine.now c.args.regs.now c.root.result c.settings.result _ _ c.root.ensures.value c.settings.ensures (within-of _ _ _ is)
    c.in-Ok.ensures.ok.keys
