use Rattle.std.proofs.Common.{List, subst}
use Rattle.paging_model.specs.Counting.{AreDistinct}
use Rattle.frame_index.specs.CountedUses.{HaveOwnPlaces}
use Rattle.frame_index.specs.declared.counted_use.CountedUse.{CountedUse}
use Rattle.frame_index.proofs.FiledRecords.{own_slots}
use Rattle.frame_index.proofs.Slots.{are_distinct, own_places}
use Rattle.frame_index.proofs.index.Index.form.Goals as goal

pub returns-clause-places : goal.returns-clause-places
returns-clause-places c =
    subst (λ (uses : List CountedUse). HaveOwnPlaces uses) c.self.view_is
    (own_places _ (own_slots _ _ _ _ c.self.invariant.0))

pub returns-clause-distinct : goal.returns-clause-distinct
returns-clause-distinct c =
    subst (λ (uses : List CountedUse). AreDistinct uses) c.self.view_is
    (are_distinct _ (own_places _ (own_slots _ _ _ _ c.self.invariant.0)))
