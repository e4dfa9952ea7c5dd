-- The lines of an answer, each with its LF. (Our own format; docs/FORMATS.md.)
use Rattle.std.specs.Prelude.{ℕ, List, [], ◌∷◌, ◌++◌, length, map, Result, Ok, Err, codes}
use Rattle.std.specs.Fmt.{decimal}
use Rattle.paging_model.specs.declared.access.Rule.{Rule}
use Rattle.paging_model.specs.declared.access.Rule.TheVariants as rule
use Rattle.paging_model.specs.declared.spaces.Area.{Area}
use Rattle.history_model.specs.declared.answers.Answer.{Answer}
use Rattle.history_model.specs.declared.answers.Answer.TheVariants.{Nothing, Asked, Listed, ListTooLarge, Verdict}
use Rattle.history_model.specs.declared.answers.Why.{Why}
use Rattle.history_model.specs.declared.answers.Why.TheVariants.{NotCanonical, Lass, Unknown, Absent, Reserved, Denied}
use Rattle.history_model.specs.declared.caches.Finding.{Finding}
use Rattle.rights_report.specs.Characters.{hexadecimal, line_end, rights_text}

-- the name of a rule that denies an access
abbrev pub rule_text : Rule → List ℕ
rule_text rule.User = codes "user"
rule_text rule.Smep = codes "smep"
rule_text rule.Smap = codes "smap"
rule_text rule.Write = codes "write"
rule_text rule.Xd = codes "xd"
rule_text rule.Key = codes "key"

-- why an access is denied
abbrev pub why_text : Why → List ℕ
why_text NotCanonical = codes "not-canonical"
why_text Lass = codes "lass"
why_text (Unknown level) = codes "unknown " ++ decimal level
why_text (Absent level) = codes "absent " ++ decimal level
why_text (Reserved level) = codes "reserved " ++ decimal level
why_text (Denied rule) = rule_text rule

-- the physical address, or why the access is denied
abbrev pub asked_line : Result ℕ Why → List ℕ
asked_line (Ok address) = codes "granted " ++ (hexadecimal address ++ line_end)
asked_line (Err why) = codes "denied " ++ (why_text why ++ line_end)

-- the first line of a listing
abbrev pub area_count_line : ℕ → List ℕ
area_count_line count = codes "areas " ++ (decimal count ++ line_end)

-- the first and the last byte, the first page's frame, and the rights
abbrev pub area_line : Area → List ℕ
area_line area =
    hexadecimal area.first ++ (codes " " ++ (hexadecimal area.last ++ (codes " " ++ (hexadecimal area.frame
    ++ (codes " " ++ (rights_text area.rights ++ line_end))))))

-- a space that is too large to be listed
abbrev pub too_large_line : List ℕ
too_large_line = codes "areas too large" ++ line_end

-- a point without findings
abbrev pub no_finding_line : List ℕ
no_finding_line = codes "point yes" ++ line_end

-- the first line of a point with findings
abbrev pub finding_count_line : ℕ → List ℕ
finding_count_line count = codes "point no " ++ (decimal count ++ line_end)

-- the processor, the PCID, the page, the frame and the excess
abbrev pub finding_line : Finding → List ℕ
finding_line finding =
    codes "cpu " ++ (decimal finding.cpu ++ (codes " pcid " ++ (decimal finding.pcid ++ (codes " page "
    ++ (hexadecimal finding.page ++ (codes " frame " ++ (hexadecimal finding.frame ++ (codes " "
    ++ (rights_text finding.excess ++ line_end)))))))))

-- the lines of a point with findings
abbrev pub finding_lines : List Finding → List (List ℕ)
finding_lines findings = finding_count_line (length findings) ∷ map (λ one. finding_line one) findings

-- yes, or the findings
abbrev pub verdict_lines : List Finding → List (List ℕ)
verdict_lines [] = no_finding_line ∷ []
verdict_lines (finding ∷ others) = finding_lines (finding ∷ others)

-- the lines of an answer; an event that asks nothing has none
abbrev pub answer_lines : Answer → List (List ℕ)
answer_lines Nothing = []
answer_lines (Asked asked) = asked_line asked ∷ []
answer_lines (Listed areas) = area_count_line (length areas) ∷ map (λ one. area_line one) areas
answer_lines ListTooLarge = too_large_line ∷ []
answer_lines (Verdict findings) = verdict_lines findings
