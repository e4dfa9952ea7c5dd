use Rattle.std.proofs.Common.{take}
use Rattle.std.specs.Prelude.{All, IsSome}
use Rattle.edit_log.specs.Numbers.{hex_digit}
use Rattle.edit_log.proofs.payloads.spells_bytes.Given as goal

abbrev pub invariant-loop-character : goal.invariant-loop-character
invariant-loop-character l = All (λ c. IsSome (hex_digit c)) (take l.character-index l.word)
