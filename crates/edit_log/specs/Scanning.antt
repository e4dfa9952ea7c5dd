-- What a search for the next event skips and finds.
use Rattle.std.specs.Prelude.{◌≡◌, ◌≢◌, ℕ, ◌+◌, ◌<◌, ◌≤◌, List, [], ◌∷◌, ◌++◌, ◌⊎◌, length, drop, Bool, true, false, Option, Some, None, Result, Ok, Err}
use Rattle.edit_log.specs.Log.{lines_of, whole_lines, rest_of, has_end}
use Rattle.edit_log.specs.LogLine.{event_of, line_limit}
use Rattle.history_model.specs.declared.events.Event.{Event}
use Rattle.edit_log.specs.declared.line_forms.LineFault.{LineFault}
use Rattle.edit_log.specs.Reading.{AllSkipped, Reading, count_after}
use Rattle.edit_log.specs.declared.line_forms.LineFault.TheVariants.{Memory}

-- bytes are lines with their LFs, whatever follows
pub record Heads (prefix : List ℕ) (lines : List (List ℕ)) : Type 0 where
  pub all : (more : List ℕ) → lines_of (prefix ++ more) ≡ lines ++ lines_of more
  pub whole : (more : List ℕ) → whole_lines (prefix ++ more) ≡ lines ++ whole_lines more
  pub rest : (more : List ℕ) → rest_of (prefix ++ more) ≡ rest_of more

-- bytes are lines, the last without LF, and nothing follows
pub record Tails (finished : Bool) (prefix rest : List ℕ) (lines : List (List ℕ)) : Type 0 where
  pub last : finished ≡ true
  pub none : rest ≡ []
  pub all : lines_of prefix ≡ lines

-- lines that have come to their end stand before the rest
pub record LinesBefore (finished : Bool) (old rest : List ℕ) (lines : List (List ℕ)) : Type 0 where
  pub prefix : List ℕ
  pub bytes : old ≡ prefix ++ rest
  pub ends : Heads prefix lines ⊎ Tails finished prefix rest lines

-- a line that has come to its end, of so many bytes with its LF
pub record HasLine (finished : Bool) (bytes : List ℕ) (size : ℕ) (line : List ℕ) : Type 0 where
  pub some : 0 < size
  pub within : size ≤ length bytes
  pub passed : LinesBefore finished bytes (drop size bytes) (line ∷ [])

-- no line has come to its end
pub record HasNoLine (finished : Bool) (bytes : List ℕ) : Type 0 where
  pub no_end : has_end bytes ≡ false
  pub all : finished ≡ true → bytes ≡ []

-- lines without an event, of so many bytes
pub record Skips (finished : Bool) (bytes : List ℕ) (size count : ℕ) : Type 0 where
  pub within : size ≤ length bytes
  pub skipped : List (List ℕ)
  pub skips : AllSkipped skipped
  pub passed : LinesBefore finished bytes (drop size bytes) skipped
  pub counts : count ≡ length skipped
  pub few : count ≤ size

-- no line has come to its end, and none is too long
pub record HasNothing (finished : Bool) (bytes : List ℕ) : Type 0 where
  pub has : HasNoLine finished bytes
  pub short : length bytes ≤ line_limit

-- too many bytes of a line whose end has not come
pub record IsTooLong (finished : Bool) (bytes : List ℕ) (size : ℕ) (line : List ℕ) : Type 0 where
  pub has : HasNoLine finished bytes
  pub long : line_limit < length bytes
  pub whole : line ≡ bytes
  pub all : size ≡ length bytes

-- a line that has come to its end, or is too long already, of so many bytes
abbrev pub BeginsWithLine : Bool → List ℕ → ℕ → List ℕ → Type 0
BeginsWithLine finished bytes size line = HasLine finished bytes size line ⊎ IsTooLong finished bytes size line

-- the first line after so many bytes, up to so many; it isn't skipped
pub record HasNextLine (finished : Bool) (bytes : List ℕ) (before after : ℕ) (line : List ℕ) : Type 0 where
  pub size : ℕ
  pub ends : after ≡ before + size
  pub begins : BeginsWithLine finished (drop before bytes) size line
  pub some : 0 < size
  pub within : after ≤ length bytes
  pub unskipped : event_of line ≢ Ok None

-- what a reader is after a line was read: the line is taken, or refused, or out of memory left as it was
abbrev pub reading_after : Reading → Result (Option Event) LineFault → ℕ → ℕ → ℕ → Reading
reading_after old (Ok event) before after count =
    record old { rest = drop after old.rest; taken = count_after old.taken (count + 1) }
reading_after old (Err Memory) before after count = old
reading_after old (Err fault) before after count =
    record old { rest = drop before old.rest; taken = count_after old.taken (count + 1); refused = Some fault }
