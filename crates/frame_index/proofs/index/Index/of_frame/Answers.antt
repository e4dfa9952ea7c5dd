use Rattle.std.proofs.Common.{◌≡◌, List, sym, subst}
use Rattle.paging_model.specs.declared.spaces.TableUse.{TableUse}
use Rattle.frame_index.specs.CountedUses.{AreThose}
use Rattle.frame_index.specs.Records.{records_in}
use Rattle.frame_index.specs.declared.counted_use.CountedUse.{CountedUse}
use Rattle.frame_index.proofs.index.Index.of_frame.Goals as goal

pub returns : goal.returns
returns c =
    subst (λ (uses : List CountedUse). AreThose (λ (table : TableUse). table.frame ≡ c.args.frame) uses c.from_vec.result) c.self.view_is
    (subst (λ (tables : List TableUse). AreThose (λ (table : TableUse). table.frame ≡ c.args.frame) (records_in c.self.inside.records.slab.slots) tables) (sym c.from_vec.ensures) c.in_ok-tables.ensures)
