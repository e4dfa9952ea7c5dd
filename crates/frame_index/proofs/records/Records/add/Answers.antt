use Rattle.std.proofs.Common.{ℕ, ◌+◌, ◌≡◌, List, Option, Some, sym, ap, ◌∙◌, subst, arith}
use Rattle.slab.specs.Slab.{Slab, Updates}
use Rattle.frame_index.specs.CountedUses.{HasOneMore, NoneAt}
use Rattle.frame_index.specs.Records.{AreFiled, records_in}
use Rattle.frame_index.specs.declared.counted_use.CountedUse.{CountedUse}
use Rattle.frame_index.proofs.FiledRecords.{free_place, filed_added}
use Rattle.frame_index.proofs.Slots.{each_from_none_at, is_added}
use Rattle.frame_index.proofs.records.Records.add.Goals as goal

pub file-requires : goal.file-requires
file-requires c = record {
  free = free_place c.args.self.now.slab.slots c.args.self.now.places c.args.self.now.frames c.args.self.now.pages
      c.requires.filed c.args.item.table.level c.args.item.table.prefix
      (each_from_none_at _ _ (records_in c.args.self.now.slab.slots) c.requires.free);
}

pub returns-clause-filed : goal.returns-clause-filed
returns-clause-filed c =
    let slots : c.args.self.now.slab.slots ≡ c.reserve.new.self.slots = sym (ap (λ (s : Slab CountedUse). s.slots) c.reserve.ensures.rest_kept) in
    let slot : c.insert_reserved.result ≡ c.vacant_key-slot.result = c.insert_reserved.ensures.key ∙ sym c.vacant_key-slot.ensures.value in
    subst (λ (pages : ℕ). AreFiled c.insert_reserved.new.self.slots c.file.new.places c.file.new.frames (c.args.self.now.pages + pages))
    (sym c.from.ensures)
    (filed_added c.reserve.new.self c.insert_reserved.new.self c.vacant_key-slot.result
    c.args.self.now.places c.args.self.now.frames c.args.self.now.pages
    (subst (λ (slots : List (Option CountedUse)). AreFiled slots c.args.self.now.places c.args.self.now.frames c.args.self.now.pages) slots c.requires.filed)
    c.args.item c.file.new.places c.file.new.frames
    (omega arith, omega arith)
    (subst (λ (slots : List (Option CountedUse)). NoneAt c.args.item.table.level c.args.item.table.prefix (records_in slots)) slots c.requires.free)
    c.vacant_key-slot.ensures.vacant
    (subst (λ (slot : ℕ). Updates c.reserve.new.self c.insert_reserved.new.self slot (Some c.args.item)) slot c.insert_reserved.ensures.updates)
    c.in_ok-file.ensures.place c.in_ok-file.ensures.frame)

pub returns-clause-added : goal.returns-clause-added
returns-clause-added c =
    let slots : c.reserve.new.self.slots ≡ c.args.self.now.slab.slots = ap (λ (s : Slab CountedUse). s.slots) c.reserve.ensures.rest_kept in
    subst (λ (slots : List (Option CountedUse)). HasOneMore c.args.item (records_in slots) (records_in c.insert_reserved.new.self.slots)) slots
    (is_added c.reserve.new.self c.insert_reserved.new.self c.insert_reserved.result c.args.item
    c.insert_reserved.ensures.was_vacant c.insert_reserved.ensures.updates)
