use Rattle.std.proofs.Common.{◌≡◌, ◌<◌, ◌≤◌, ◌+◌, ◌-◌, ◌^◌, ◌++◌, false, length, drop}
use Rattle.std.specs.Fmt.{digits}
use Rattle.rights_report.proofs.line_buffer.LineBuffer.put_digits.Given as goal

-- the digits of what is left, and those that stand, are the number's, before what stood
abbrev pub invariant-loop-rest : goal.invariant-loop-rest
invariant-loop-rest l = record {
  whole : length l.self-inside.bytes ≡ 128;
  same : l.self-inside.start ≡ l.initial.at;
  at : l.at ≤ l.initial.at;
  left : l.initial.at < l.at + 20;
  few : l.rest < l.base ^ (l.at + 20 - l.initial.at);
  shown : digits l.base false l.rest ++ drop l.at l.self-inside.bytes
      ≡ digits l.base false l.number ++ drop l.initial.at l.initial.self-inside.bytes;
}

abbrev pub decreases-loop-rest : goal.decreases-loop-rest
decreases-loop-rest l = l.rest
