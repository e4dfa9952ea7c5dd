-- The lines of a verdict with findings.
use Rattle.std.proofs.Common.{◌≡◌, ◌<◌, List, [], ◌∷◌, refl, arith, length}
use Rattle.rights_report.specs.AnswerLines.{finding_lines, verdict_lines}
use Rattle.history_model.specs.declared.caches.Finding.{Finding}

pub verdict_some : (findings : List Finding) → 0 < length findings → verdict_lines findings ≡ finding_lines findings
verdict_some [] some = absurd (omega arith)
verdict_some (finding ∷ others) some = refl
