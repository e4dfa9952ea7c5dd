-- The ranges of the tables of a space.
use Rattle.std.proofs.Common.{ℕ, inl, inr, List, arith}
use Rattle.paging_model.specs.Counting.{AreAll}
use Rattle.paging_model.specs.Memory.{Memory}
use Rattle.paging_model.specs.TableUses.{Serves}
use Rattle.paging_model.specs.declared.registers.Settings.{Settings}
use Rattle.paging_model.specs.declared.spaces.SpaceKey.{SpaceKey}
use Rattle.frame_index.specs.declared.counted_use.CountedUse.{CountedUse}
use Rattle.page_laws.proofs.SpaceCounts.{top_is_high}
use Rattle.space_map.specs.ServingTables.{AreServing, IsServing}
use Rattle.space_map.specs.TrueSpaces.{IsCountedUse}

serving-by_serves : (settings : Settings) (level prefix : ℕ) → Serves settings level prefix → IsServing settings level prefix
serving-by_serves settings level prefix (inl top) =
    let high = top_is_high settings in
    (omega (arith, high, top.0), omega (arith, top.0), (λ is. top.1), (λ less. absurd (omega (arith, less, top.0))))
serving-by_serves settings level prefix (inr lower) =
    (lower.0, omega (arith, lower.1), (λ is. absurd (omega (arith, is, lower.1))), (λ less. (lower.2.below, lower.2.whole)))

pub serving-uses : (memory : Memory) (key : SpaceKey) (index : List CountedUse) → AreAll (IsCountedUse memory key) index → AreServing key.settings index
serving-uses memory key index all one is =
    serving-by_serves key.settings one.table.level one.table.prefix (all.some.have one is).is_use.serves
