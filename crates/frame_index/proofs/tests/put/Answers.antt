use Rattle.std.proofs.Common.{◌≡◌, ℕ, false, List, Option, None, Some, is_some, sym, ◌∙◌}
use Rattle.frame_index.specs.CountedUses.{IsFound, NoneAt}
use Rattle.frame_index.specs.declared.counted_use.CountedUse.{CountedUse}
use Rattle.frame_index.proofs.Slots.{none_at_from_each}
use Rattle.frame_index.proofs.tests.put.Goals as goal

none_at_from_find : (level prefix : ℕ) (all : List CountedUse) (found : Option CountedUse) → IsFound level prefix all found → is_some found ≡ false → NoneAt level prefix all
none_at_from_find level prefix all None none clear = none_at_from_each level prefix all none
none_at_from_find level prefix all (Some one) is clear = absurd (cc)

pub add-requires-clause-free : goal.add-requires-clause-free
add-requires-clause-free c =
    let clear : is_some c.find.result ≡ false = sym c.is_some.ensures ∙ c.if-is_some.false in
    none_at_from_find c.args.item.table.level c.args.item.table.prefix c.args.index.now c.find.result c.find.ensures clear
