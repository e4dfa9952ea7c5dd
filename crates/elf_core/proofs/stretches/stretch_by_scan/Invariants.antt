use Rattle.std.proofs.Common.{drop}
use Rattle.elf_core.specs.Extents.{extents}
use Rattle.elf_core.proofs.Scanning.{IsScanned}
use Rattle.elf_core.proofs.stretches.stretch_by_scan.Given as goal

abbrev pub invariant-loop-segment : goal.invariant-loop-segment
invariant-loop-segment l = IsScanned (extents l.segments) (extents (drop l.segment-index l.segments)) l.at l.end l.segment-index
