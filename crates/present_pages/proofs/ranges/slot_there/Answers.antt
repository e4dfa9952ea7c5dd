use Rattle.std.proofs.Common.{inl, inr, sym, ◌∙◌}
use Rattle.present_pages.proofs.Slots.{slot-unknown, slot-entry, slot-page}
use Rattle.present_pages.proofs.ranges.slot_there.Goals as goal

pub returns-in_default-clause-maps : goal.returns-in_default-clause-maps
returns-in_default-clause-maps g c x low high aligned =
    slot-unknown _ _ _ _ _ c.args.first _ x c.requires.least c.requires.whole low high c.entry_address.ensures.value c.in_default.ensures.value

pub returns-in-Absent-clause-maps : goal.returns-in-Absent-clause-maps
returns-in-Absent-clause-maps g c x low high aligned = elim c.in-Absent.is [
  | inl absent ↦ slot-entry _ _ _ _ _ c.args.first _ x c.requires.least c.requires.whole low high c.entry_address.ensures.value _ _ c.in-Some.ensures.value (sym absent ∙ c.decode.ensures.value)
  | inr reserved ↦ slot-entry _ _ _ _ _ c.args.first _ x c.requires.least c.requires.whole low high c.entry_address.ensures.value _ _ c.in-Some.ensures.value (sym reserved ∙ c.decode.ensures.value)
]

pub returns-in-Table-clause-maps : goal.returns-in-Table-clause-maps
returns-in-Table-clause-maps g c x low high aligned =
    rw c.join.ensures (slot-entry _ _ _ _ _ c.args.first _ x c.requires.least c.requires.whole low high c.entry_address.ensures.value _ _ c.in-Some.ensures.value c.in-Table.ensures.value)

pub returns-in-Leaf-clause-maps : goal.returns-in-Leaf-clause-maps
returns-in-Leaf-clause-maps g c x low high aligned =
    rw c.join-in-Leaf.ensures (slot-page _ _ _ _ _ c.args.first _ x c.requires.least c.requires.whole low high c.entry_address.ensures.value _ _ _ _ _ aligned c.in-Some.ensures.value c.in-Leaf.ensures.value)
