use Rattle.std.proofs.Common.{◌≡◌, ℕ, ◌≤◌, Some}
use Rattle.paging_model.specs.Registers.{pcid_of}
use Rattle.history_model.specs.History.{regs}
use Rattle.history_reference.specs.HeldLists.{AreStillHeld}
use Rattle.history_reference.specs.Moments.{history_of}
use Rattle.history_reference.proofs.HeldSteps.{AreMadeAbove}
use Rattle.history_reference.proofs.made_entries.make_entries.Given as goal

abbrev pub decreases-loop-level : goal.decreases-loop-level
decreases-loop-level l = l.level

-- what is made of the levels above was added
abbrev pub invariant-loop-level : goal.invariant-loop-level
invariant-loop-level l = record {
  most : l.level ≤ 5;
  made : (cpu pcid : ℕ) → regs (history_of l.moment) cpu ≡ Some l.known → pcid ≡ pcid_of l.known
      → AreStillHeld (history_of l.moment) cpu pcid l.address l.fn.list.items
      → AreMadeAbove (history_of l.moment) cpu pcid l.address l.level l.list.items;
}
