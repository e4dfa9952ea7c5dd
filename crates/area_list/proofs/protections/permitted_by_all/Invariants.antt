use Rattle.std.proofs.Common.{◌≡◌, length}
use Rattle.area_list.proofs.PermittedTables.{AreBelow}
use Rattle.area_list.proofs.protections.permitted_by_all.Given as goal

-- the sets of the numbers so far are in place
abbrev pub invariant-loop-number : goal.invariant-loop-number
invariant-loop-number l = record {
  all : length l.permitted ≡ 128;
  so_far : AreBelow l.regs l.permitted l.number;
}
