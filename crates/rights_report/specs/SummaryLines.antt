-- The nine lines that sum up a generated log's run, each with its LF. (Our own format; docs/FORMATS.md.)
use Rattle.std.specs.Prelude.{ℕ, List, [], ◌∷◌, ◌++◌, codes}
use Rattle.std.specs.Fmt.{decimal}
use Rattle.rights_report.specs.Characters.{line_end}
use Rattle.rights_report.specs.declared.summaries.Summary.{Summary}

-- what is counted, and how many there were
abbrev pub count_line : List ℕ → ℕ → List ℕ
count_line what count = what ++ (decimal count ++ line_end)

-- events; of these writes, changes of registers, and invalidations; answers to `ask`; areas of all listings; points
abbrev pub summary_lines : Summary → List (List ℕ)
summary_lines summary =
    count_line (codes "events ") summary.events
    ∷ count_line (codes "writes ") summary.writes
    ∷ count_line (codes "sets ") summary.sets
    ∷ count_line (codes "invalidations ") summary.invalidations
    ∷ count_line (codes "granted ") summary.granted
    ∷ count_line (codes "denied ") summary.denied
    ∷ count_line (codes "areas ") summary.areas
    ∷ count_line (codes "points yes ") summary.yes
    ∷ count_line (codes "points no ") summary.no
    ∷ []
