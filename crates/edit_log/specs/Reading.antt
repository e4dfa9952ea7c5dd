-- What a reader of a log's lines stands for, and what it takes of the bytes that it was fed.
use Rattle.std.specs.Prelude.{◌≡◌, ℕ, ◌+◌, ◌-◌, ◌^◌, ◌<◌, ◌≤◌, min, List, [], ◌∷◌, ◌++◌, ◌⊎◌, length, Bool, true, false, All, Option, None, Some, Result, Ok, Err, if◌then◌else◌}
use Rattle.edit_log.specs.Log.{lines_of, whole_lines, rest_of, has_end}
use Rattle.edit_log.specs.LogLine.{event_of, if_event, line_limit}
use Rattle.history_model.specs.declared.events.Event.{Event}
use Rattle.history_model.specs.declared.events.Event.TheVariants.{Write}
use Rattle.edit_log.specs.declared.line_forms.LineFault.{LineFault}
use Rattle.edit_log.specs.declared.line_forms.LineFault.TheVariants.{TooLong, Memory}

-- the bytes fed and not taken, the lines taken, whether no more bytes will come, and why a line was refused, which the
-- lines taken then count
pub record Reading : Type 0 where
  pub rest : List ℕ
  pub taken : ℕ
  pub finished : Bool
  pub refused : Option LineFault

-- the lines left that have come to their end
abbrev pub left_of : Reading → List (List ℕ)
left_of reading = if reading.finished then lines_of reading.rest else whole_lines reading.rest

-- a count of lines after more lines; it stands still at 2 to the 64, less 1
abbrev pub count_after : ℕ → ℕ → ℕ
count_after taken more = min (taken + more) (2 ^ 64 - 1)

-- empty lines and comments
abbrev pub AllSkipped : List (List ℕ) → Type 0
AllSkipped lines = All (λ line. event_of line ≡ Ok None) lines

-- these lines stood before the rest, each with its LF, but for a last line after which no more bytes will come
pub record Splits (finished : Bool) (old rest : List ℕ) (lines : List (List ℕ)) : Type 0 where
  pub prefix : List ℕ
  pub bytes : old ≡ prefix ++ rest
  pub split : lines_of prefix ≡ lines
  pub ends : (whole_lines prefix ≡ lines) ⊎ ((finished ≡ true) × (rest ≡ []))

-- these lines were taken and count_after
pub record Takes (old new : Reading) (lines : List (List ℕ)) : Type 0 where
  pub splits : Splits old.finished old.rest new.rest lines
  pub count : new.taken ≡ count_after old.taken (length lines)
  pub finished : new.finished ≡ old.finished
  pub unrefused : old.refused ≡ None
  pub going : new.refused ≡ None

-- the next event was taken, with the lines before it
pub record Gives (old new : Reading) (event : Event) : Type 0 where
  pub skipped : List (List ℕ)
  pub line : List ℕ
  pub skips : AllSkipped skipped
  pub means : event_of line ≡ Ok (Some event)
  pub left : left_of old ≡ skipped ++ line ∷ left_of new
  pub takes : Takes old new (skipped ++ line ∷ [])

-- no line with an event has come to its end
pub record Passes (old new : Reading) : Type 0 where
  pub skipped : List (List ℕ)
  pub skips : AllSkipped skipped
  pub left : left_of old ≡ skipped
  pub takes : Takes old new skipped
  pub none : left_of new ≡ []
  pub no_end : has_end new.rest ≡ false
  pub short : length new.rest ≤ line_limit
  pub all : old.finished ≡ true → new.rest ≡ []
  pub begun : old.finished ≡ false → new.rest ≡ rest_of old.rest

-- the next line that isn't skipped
pub record NextLine (old : Reading) (skipped : List (List ℕ)) (line : List ℕ) : Type 0 where
  pub skips : AllSkipped skipped
  pub more : List (List ℕ)
  pub left : left_of old ≡ skipped ++ line ∷ more

-- a line that has come to its end is refused
pub record IsFaulty (old : Reading) (skipped : List (List ℕ)) (fault : LineFault) : Type 0 where
  pub line : List ℕ
  pub next : NextLine old skipped line
  pub means : event_of line ≡ Err fault

-- a line is too long before its end has come
pub record IsEndless (old : Reading) (skipped : List (List ℕ)) (fault : LineFault) : Type 0 where
  pub unfinished : old.finished ≡ false
  pub skips : AllSkipped skipped
  pub left : left_of old ≡ skipped
  pub long : line_limit < length (rest_of old.rest)
  pub is : fault ≡ TooLong

-- a line is refused, and count_after as the last; the rest begins with it
pub record Refuses (old new : Reading) (fault : LineFault) : Type 0 where
  pub skipped : List (List ℕ)
  pub why : IsFaulty old skipped fault ⊎ IsEndless old skipped fault
  pub splits : Splits old.finished old.rest new.rest skipped
  pub count : new.taken ≡ count_after old.taken (length skipped + 1)
  pub finished : new.finished ≡ old.finished
  pub refused : new.refused ≡ Some fault

-- the event of a write
pub record Writes (event : Option Event) : Type 0 where
  pub at : ℕ
  pub bytes : List ℕ
  pub is : event ≡ Some (Write at bytes)

-- the line of a write
pub record SpellsWrite (line : List ℕ) : Type 0 where
  pub event : Option Event
  pub write : Writes event
  pub spells : event_of line ≡ Ok event

-- out of memory for the bytes of a write; nothing was taken
pub record RunsOut (old new : Reading) : Type 0 where
  pub skipped : List (List ℕ)
  pub line : List ℕ
  pub next : NextLine old skipped line
  pub write : SpellsWrite line
  pub same : new ≡ old

-- what was read of a line by itself
abbrev pub IsRead : List ℕ → Result (Option Event) LineFault → Type 0
IsRead line (Ok event) = event_of line ≡ Ok event
IsRead line (Err Memory) = SpellsWrite line
IsRead line (Err fault) = event_of line ≡ Err fault

-- what was read of words by themselves
abbrev pub IsReadOf : Option Event → Result (Option Event) LineFault → Type 0
IsReadOf event (Err Memory) = Writes event
IsReadOf event read = read ≡ if_event event
