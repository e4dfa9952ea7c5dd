use Rattle.std.proofs.Common.{◌≡◌, ℕ, ◌%◌, ◌∙◌, sym, ap, arith}
use Rattle.std.specs.List.{filter}
use Rattle.version_store.specs.Changes.{is_changed, slots_from}
use Rattle.version_store.proofs.SlotLists.{changed-none, changed-pushed, changed-passed}
use Rattle.version_store.proofs.slots.slots_in.Goals as goal
use Rattle.version_store.proofs.slots.slots_in.Goals.{then-changed-i+in_ok-push, else-changed-i}

pub loop-i-init : goal.loop-i-init
loop-i-init c = c.new-items.ensures.items ∙ changed-none c.args.changes.now c.args.frame

pub loop-i-preserved : goal.loop-i-preserved
loop-i-preserved c = elim c.if-changed-i.branch [
  | then-changed-i+in_ok-push w ↦
      ap (λ items. items.items) w.items-is
      ∙ (w.in_ok-push.ensures.items
      ∙ changed-pushed c.args.changes.now c.args.frame c.loop-i.i c.loop-i.items.items c.requires c.loop-i-test.true (sym (c.changed_slots-changed.ensures.value c.loop-i.i c.loop-i-test.true) ∙ w.if-changed-i.true) c.loop-i.invariant)
  | else-changed-i w ↦
      ap (λ items. items.items) w.items-is
      ∙ changed-passed c.args.changes.now c.args.frame c.loop-i.i c.loop-i.items.items c.requires c.loop-i-test.true (sym (c.changed_slots-changed.ensures.value c.loop-i.i c.loop-i-test.true) ∙ w.if-changed-i.false) c.loop-i.invariant
]

pub returns : goal.returns
returns c =
    c.from_vec.ensures
    ∙ (c.loop-i.invariant
    ∙ ap (λ (n : ℕ). filter (λ slot. is_changed c.args.changes.now (slot % 4096)) (slots_from c.args.frame n)) (let last : c.loop-i.i ≡ 512 = omega arith in last))
