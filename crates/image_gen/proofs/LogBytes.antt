-- The log as its lines are added, one after another.
use Rattle.std.proofs.Common.{◌≡◌, ℕ, suc, ◌+◌, List, ◌++◌, flat_map, sym, ap, ◌∙◌, arith, append_assoc}
use Rattle.std.proofs.lemmas.List.{append-nil}
use Rattle.rights_report.specs.Characters.{line_end}
use Rattle.image_gen.specs.GeneratedLog.{lines_from, numbered_line}
use Rattle.image_gen.specs.LineTexts.{words_of_line}
use Rattle.image_gen.specs.declared.lines.Line.{Line}

-- the text of lines, each with its LF
abbrev pub text_of_lines : List Line → List ℕ
text_of_lines lines = flat_map (λ line. words_of_line line ++ line_end) lines

log-step : (number left state : ℕ) (log : List ℕ)
    → (log ++ (words_of_line (numbered_line number state).0 ++ line_end)) ++ text_of_lines (lines_from (number + 1) left (numbered_line number state).1)
    ≡ log ++ text_of_lines (lines_from number (suc left) state)
log-step number left state log = append_assoc log _ _

-- a line is added, and one line less is left
pub log-added : (number left less state next : ℕ) (line : Line) (log longer : List ℕ)
    → line ≡ (numbered_line number state).0 → next ≡ (numbered_line number state).1
    → longer ≡ log ++ (words_of_line line ++ line_end) → left ≡ less + 1
    → longer ++ text_of_lines (lines_from (number + 1) less next) ≡ log ++ text_of_lines (lines_from number left state)
log-added number left less state next line log longer is after added one =
    ap (λ (xs : List ℕ). xs ++ text_of_lines (lines_from (number + 1) less next))
    (added ∙ ap (λ (some : Line). log ++ (words_of_line some ++ line_end)) is)
    ∙ ap (λ (then : ℕ). (log ++ (words_of_line (numbered_line number state).0 ++ line_end)) ++ text_of_lines (lines_from (number + 1) less then)) after
    ∙ log-step number less state log
    ∙ ap (λ (k : ℕ). log ++ text_of_lines (lines_from number k state)) {x = suc less} {y = left} (omega arith)

-- no line is left
pub log-done : (number left state : ℕ) (log : List ℕ) → left ≡ 0 → log ≡ log ++ text_of_lines (lines_from number left state)
log-done number left state log none =
    sym (append-nil log) ∙ ap (λ (k : ℕ). log ++ text_of_lines (lines_from number k state)) (sym none)
