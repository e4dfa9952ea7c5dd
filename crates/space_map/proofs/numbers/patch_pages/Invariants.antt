use Rattle.std.proofs.Common.{◌≡◌, ◌≤◌, ℕ, Bool}
use Rattle.kept_laws.specs.PageNumbers.{pages_in}
use Rattle.kept_laws.specs.Patches.{IsPatch}
use Rattle.page_laws.specs.PatchEntries.{IsMapOf}
use Rattle.paging_model.specs.Counting.{AreAll}
use Rattle.paging_model.specs.Memory.{Memory}
use Rattle.paging_model.specs.TableUses.{IsUse}
use Rattle.paging_model.specs.declared.registers.Settings.{Settings}
use Rattle.region_map.specs.Coalesced.{target_at}
use Rattle.space_map.specs.PatchWalks.{index_tables}
use Rattle.space_map.proofs.numbers.patch_pages.Given as goal

abbrev pub invariant-loop-k : goal.invariant-loop-k
invariant-loop-k l = record {
  few : l.pages ≤ l.k;
  pages_are : (written : ℕ → Bool) (memory : Memory) (settings : Settings) (root : ℕ) → IsPatch memory written settings root l.patch
      → IsMapOf memory settings root (target_at l.regions) → AreAll (IsUse memory settings root) (index_tables l.index)
      → l.pages ≡ pages_in memory settings l.patch.table.level l.patch.table.frame l.patch.from l.k;
}
