use Rattle.std.proofs.Common.{ℕ, ◌-◌, None, sym, ◌∙◌, subst, arith}
use Rattle.frame_index.specs.Records.{AreFiled, PutsSlot, frame_cmp, place_cmp}
use Rattle.frame_index.proofs.FiledRecords.{filed_removed, pages_within}
use Rattle.frame_index.proofs.records.Records.remove.Goals as goal

pub overflow_sub-self : goal.overflow_sub-self
overflow_sub-self c =
    let within = pages_within _ _ _ _ c.requires.filed c.args.slot c.in-Some.one (sym c.try_remove.ensures.value ∙ c.in-Some.is) in
    omega (arith, within, c.from.ensures)

pub returns-in-Some-clause-filed : goal.returns-in-Some-clause-filed
returns-in-Some-clause-filed c =
    let one = c.in-Some.one in
    subst (λ (pages : ℕ). AreFiled c.try_remove.new.self.slots c.remove.new.self c.remove-in-Some.new.self (c.args.self.now.pages - pages))
    (sym c.from.ensures)
    (filed_removed c.args.self.now.slab c.try_remove.new.self c.args.slot c.args.self.now.places c.args.self.now.frames c.args.self.now.pages
    c.requires.filed one c.remove.new.self c.remove-in-Some.new.self (sym c.try_remove.ensures.value ∙ c.in-Some.is) c.try_remove.ensures.updates
    (subst (λ (key : ℕ × ℕ). PutsSlot place_cmp c.args.self.now.places c.remove.new.self key None) c.place_of.ensures c.remove.ensures.updates.0)
    (subst (λ (key : ℕ × (ℕ × ℕ)). PutsSlot frame_cmp c.args.self.now.frames c.remove-in-Some.new.self key None) c.frame_place_of.ensures c.remove-in-Some.ensures.updates.0))
