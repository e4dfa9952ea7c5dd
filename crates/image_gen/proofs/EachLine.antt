-- The lines of a generated log, one after another, and the events that they spell.
use Rattle.std.proofs.Common.{◌≡◌, ℕ, zero, suc, ◌+◌, ◌%◌, ◌^◌, ◌<◌, ◌≤◌, List, [], ◌∷◌, ◌++◌, refl, arith, ap, ◌∙◌}
use Rattle.std.specs.Prelude.{Some, Ok, Bool, true, false, map, flat_map, nat_lt, ◌==◌, if◌then◌else◌}
use Rattle.std.specs.List.{AllByRecursion}
use Rattle.edit_log.specs.Log.{lines_of}
use Rattle.edit_log.specs.LogLine.{event_of}
use Rattle.rights_report.specs.Characters.{line_end}
use Rattle.image_gen.specs.GeneratedTables.{slot}
use Rattle.image_gen.specs.GeneratedLog.{Drawn, ask_after, drawn, event_of_line, generated_lines, invlpg_after, line_after, line_of_form, lines_from, next_state, numbered_line, page_drawn, set_after, write_after}
use Rattle.image_gen.specs.LineTexts.{generated_log, words_of_line}
use Rattle.image_gen.specs.declared.lines.Line.{Line}
use Rattle.image_gen.specs.declared.lines.Line.TheVariants.{Point, LoseAll, List as ListOf, Write, Invlpg, Ask, SetRoot}
use Rattle.image_gen.proofs.LinesApart.{lines-end}
use Rattle.image_gen.proofs.LineEvents.{IsLineOf, ask-spells, invlpg-spells, list-spells, lose-spells, point-spells, set-spells, write-spells}

-- processors have 32 bits, and addresses 64
abbrev IsBounded : Line → Type 0
IsBounded Point = Unit {0}
IsBounded (LoseAll cpu) = cpu < 2 ^ 32
IsBounded ListOf = Unit {0}
IsBounded (Write slot entry) = slot < 2 ^ 64
IsBounded (Invlpg cpu address) = (cpu < 2 ^ 32) × (address < 2 ^ 64)
IsBounded (Ask cpu access pointer) = (cpu < 2 ^ 32) × (pointer < 2 ^ 64)
IsBounded (SetRoot cpu) = cpu < 2 ^ 32

spells : (line : Line) → IsBounded line → IsLineOf (event_of_line line) (words_of_line line)
spells Point bounded = point-spells
spells (LoseAll cpu) bounded = lose-spells cpu bounded
spells ListOf bounded = list-spells
spells (Write slot entry) bounded = write-spells slot bounded entry
spells (Invlpg cpu address) bounded = invlpg-spells cpu bounded.0 address bounded.1
spells (Ask cpu access pointer) bounded = ask-spells cpu bounded.0 pointer bounded.1 access
spells (SetRoot cpu) bounded = set-spells cpu bounded

-- lines, each with its LF
abbrev log-of : List Line → List ℕ
log-of lines = flat_map (λ line. words_of_line line ++ line_end) lines

all-spell : (lines : List Line) → AllByRecursion IsBounded lines
    → map event_of (lines_of (log-of lines)) ≡ map (λ line. Ok (Some (event_of_line line))) lines
all-spell [] all = refl
all-spell (line ∷ lines) all =
    ap (map event_of) (lines-end (words_of_line line) (log-of lines) (spells line all.0).printable)
    ∙ ap (λ x. x ∷ map event_of (lines_of (log-of lines))) (spells line all.0).is
    ∙ ap (λ rest. Ok (Some (event_of_line line)) ∷ rest) (all-spell lines all.1)

-- what is drawn is bounded
either : (test : Bool) (a b : Drawn) → IsBounded a.0 → IsBounded b.0 → IsBounded (if test then a else b).0
either true a b first second = first
either false a b first second = second

drawn-under : (limit state : ℕ) → 0 < limit → drawn limit state < limit
drawn-under limit state some = omega (arith, some)

cpu-drawn : (state bound : ℕ) → 2 ≤ bound → drawn 2 state < bound
cpu-drawn state bound room = omega (arith, drawn-under 2 state (omega arith))

page-under : (state bound : ℕ) → 33554432 ≤ bound → page_drawn state < bound
page-under state bound room = omega (arith, drawn-under 8192 state (omega arith))

slot-under : (i j bound : ℕ) → 135168 ≤ bound → slot (drawn 16 i) (drawn 512 j) < bound
slot-under i j bound room = omega (arith, drawn-under 16 i (omega arith), drawn-under 512 j (omega arith))

bounded-write : (state : ℕ) → IsBounded (write_after state).0
bounded-write state = slot-under (next_state state) (next_state (next_state state)) (2 ^ 64) (omega arith)

bounded-form : (form state : ℕ) → IsBounded (line_of_form form state).0
bounded-form form state =
    either (nat_lt form 4) (write_after state) others (bounded-write state)
    (either (form == 4) (invlpg_after state) (if form == 6 then set_after state else ask_after state)
    (cpu-drawn _ (2 ^ 32) (omega arith), page-under _ (2 ^ 64) (omega arith))
    (either (form == 6) (set_after state) (ask_after state) (cpu-drawn _ (2 ^ 32) (omega arith))
    (cpu-drawn _ (2 ^ 32) (omega arith), page-under _ (2 ^ 64) (omega arith))))
  where
    others : Drawn
    others = if form == 4 then invlpg_after state else (if form == 6 then set_after state else ask_after state)

module _ (number state : ℕ) where
  abbrev from-500 : Drawn
  from-500 = if number % 1000 == 500 then (ListOf, state) else line_after state

  abbrev from-2 : Drawn
  from-2 = if number % 1000 == 2 then (LoseAll 1, state) else from-500

  abbrev from-1 : Drawn
  from-1 = if number % 1000 == 1 then (LoseAll 0, state) else from-2

  bounded-number : IsBounded (numbered_line number state).0
  bounded-number =
      either (number % 1000 == 0) (Point, state) from-1 tt
      (either (number % 1000 == 1) (LoseAll 0, state) from-2 (omega arith)
      (either (number % 1000 == 2) (LoseAll 1, state) from-500 (omega arith)
      (either (number % 1000 == 500) (ListOf, state) (line_after state) tt
      (bounded-form (drawn 8 (next_state state)) (next_state state)))))

bounded-lines : (number count state : ℕ) → AllByRecursion IsBounded (lines_from number count state)
bounded-lines number zero state = tt
bounded-lines number (suc count) state =
    (bounded-number number state, bounded-lines (number + 1) count (numbered_line number state).1)

pub each-line : (seed count : ℕ)
    → map event_of (lines_of (generated_log seed count))
    ≡ map (λ line. Ok (Some (event_of_line line))) (generated_lines seed count)
each-line seed count = all-spell (generated_lines seed count) (bounded-lines 1 count seed)
