use Rattle.std.proofs.Common.{◌≡◌, ℕ, Bool, take}
use Rattle.std.specs.Prelude.{map}
use Rattle.kept_laws.specs.PageNumbers.{pages_in_patch}
use Rattle.kept_laws.specs.Patches.{ArePatches}
use Rattle.kept_laws.specs.declared.patches.Patch.{Patch}
use Rattle.page_laws.specs.PatchEntries.{IsMapOf}
use Rattle.paging_model.specs.Counting.{AreAll}
use Rattle.paging_model.specs.Memory.{Memory}
use Rattle.paging_model.specs.TableUses.{IsUse}
use Rattle.paging_model.specs.declared.registers.Settings.{Settings}
use Rattle.region_map.specs.Coalesced.{target_at}
use Rattle.space_map.specs.PatchWalks.{index_tables}
use Rattle.space_map.proofs.numbers.pages_before.Given as goal

abbrev pub invariant-loop-patch : goal.invariant-loop-patch
invariant-loop-patch l = (written : ℕ → Bool) (memory : Memory) (settings : Settings) (root : ℕ) → ArePatches memory written settings root l.patches
    → IsMapOf memory settings root (target_at l.regions) → AreAll (IsUse memory settings root) (index_tables l.index)
    → l.pages.items ≡ map (λ (patch : Patch). pages_in_patch memory settings patch) (take l.patch-index l.patches)
