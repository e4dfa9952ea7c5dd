use Rattle.std.proofs.Common.{◌<◌, sym, ◌∙◌, arith, subst}
use Rattle.version_store.specs.Changes.{IsSlotOffset}
use Rattle.version_store.specs.declared.change.Change.{Change}
use Rattle.version_store.proofs.Packing.{below_len, change_at-read, get_or-changes_in}
use Rattle.version_store.proofs.frame_changes.FrameChanges.get.Goals as goal

pub index-requires : goal.index-requires
index-requires c =
    let below : c.args.number < c.self.inside.len = below_len _ _ _ _ c.self.view_is c.requires in
    let room = c.self.invariant.filled.room in
    omega arith

pub returns-clause-value : goal.returns-clause-value
returns-clause-value c =
    let below : c.args.number < c.self.inside.len = below_len _ _ _ _ c.self.view_is c.requires in
    rw (sym c.self.view_is)
    (change_at-read _ _ _ _ _ c.self.invariant.filled below c.index.ensures c.read_change.ensures
    ∙ sym (get_or-changes_in _ _ c.args.number _ below))

pub returns-clause-slot : goal.returns-clause-slot
returns-clause-slot c =
    let below : c.args.number < c.self.inside.len = below_len _ _ _ _ c.self.view_is c.requires in
    subst (λ (one : Change). IsSlotOffset one.offset)
    (sym (change_at-read _ _ _ _ _ c.self.invariant.filled below c.index.ensures c.read_change.ensures))
    (c.self.invariant.slots c.args.number below)
