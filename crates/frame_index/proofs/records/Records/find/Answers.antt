use Rattle.std.proofs.Common.{Option, sym, ap, ◌∙◌, subst}
use Rattle.std.specs.Prelude.{option_copied}
use Rattle.frame_index.specs.CountedUses.{IsFound}
use Rattle.frame_index.specs.Records.{records_in}
use Rattle.frame_index.specs.declared.counted_use.CountedUse.{CountedUse}
use Rattle.frame_index.proofs.FiledRecords.{found_at, none_from_free}
use Rattle.frame_index.proofs.records.Records.find.Goals as goal

pub returns-in_err-slot : goal.returns-in_err-slot
returns-in_err-slot c =
    subst (λ (found : Option CountedUse). IsFound c.args.level c.args.prefix (records_in c.args.self.now.slab.slots) found)
    (sym c.from_residual.ensures)
    (none_from_free _ _ _ _ c.requires c.args.level c.args.prefix (sym c.get.ensures.value ∙ ap option_copied c.in_err-slot.was))

pub returns : goal.returns
returns c =
    subst (λ (found : Option CountedUse). IsFound c.args.level c.args.prefix (records_in c.args.self.now.slab.slots) found)
    (sym (c.copied.ensures ∙ c.get-2.ensures))
    (found_at _ _ _ _ c.requires c.args.level c.args.prefix c.in_ok-slot.slot.now (sym c.get.ensures.value ∙ ap option_copied c.in_ok-slot.was))
