use Rattle.std.proofs.Common.{◌+◌, ◌*◌, ◌≤◌, ℕ, drop}
use Rattle.paging_model.specs.declared.spaces.TableUse.{TableUse}
use Rattle.frame_index.specs.CountedUses.{pages_counted}
use Rattle.space_map.specs.PatchWalks.{AreNumberChanges, AreFramed, AreNumbered, AreOfOwnUses, HaveSameTables}
use Rattle.space_map.proofs.numbers.recount.Given as goal

abbrev pub invariant-loop-i : goal.invariant-loop-i
invariant-loop-i l = record {
  tables : HaveSameTables l.fn.index l.index;
  most : pages_counted l.index ≤ pages_counted l.fn.index + 512 * l.i;
  numbered : (was is : TableUse → ℕ) → AreOfOwnUses l.patches → AreFramed l.patches l.fn.index → AreNumberChanges was is l.patches l.before l.after
      → AreNumbered was is l.patches l.fn.index → AreNumbered was is (drop l.i l.patches) l.index;
}
