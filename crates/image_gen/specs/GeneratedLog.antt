-- The lines of the generated log: some at their places, the others drawn. (Our own format; docs/FORMATS.md.)
use Rattle.std.specs.Prelude.{ℕ, zero, suc, ◌+◌, ◌*◌, ◌/◌, ◌%◌, ◌^◌, ◌==◌, nat_lt, false, List, [], ◌∷◌, slice_index_or, if◌then◌else◌}
use Rattle.byteorder.specs.Endian.{little_bytes}
use Rattle.paging_model.specs.AccessSets.{accesses}
use Rattle.paging_model.specs.declared.access.Access.{Access}
use Rattle.paging_model.specs.declared.access.Access.TheVariants as access
use Rattle.paging_model.specs.declared.registers.RegChange.TheVariants.{Cr3}
use Rattle.history_model.specs.declared.events.Event.{Event}
use Rattle.history_model.specs.declared.events.Event.TheVariants as event
use Rattle.image_gen.specs.GeneratedTables.{root, slot, page, open_entry}
use Rattle.image_gen.specs.declared.lines.Line.{Line}
use Rattle.image_gen.specs.declared.lines.Line.TheVariants.{Point, LoseAll, List as ListOf, Write, Invlpg, Ask, SetRoot}

-- the state of the generator after one; it begins as the seed
abbrev pub next_state : ℕ → ℕ
next_state state = (1103515245 * state + 12345) % 2 ^ 31

-- the number below a limit that is drawn with a state
abbrev pub drawn : ℕ → ℕ → ℕ
drawn limit state = state / 65536 % limit

-- a line, and the state with which the last number for it was drawn
abbrev pub Drawn : Type 0
Drawn = Line × ℕ

-- what becomes of an entry: it permits everything, no write, no user, or is no more there
abbrev pub entry_by : ℕ → ℕ → ℕ
entry_by frame form = if form == 0 then open_entry frame else (if form == 1 then frame + 5 else (if form == 2 then frame + 3 else 0))

abbrev pub write_after : ℕ → Drawn
write_after state =
    let i = next_state state in
    let j = next_state i in
    let form = next_state j in
    (Write (slot (drawn 16 i) (drawn 512 j)) (entry_by (page (drawn 16 i) (drawn 512 j)) (drawn 4 form)), form)

-- one of the 8,192 pages
abbrev pub page_drawn : ℕ → ℕ
page_drawn state = 0x1000 * drawn 8192 state

abbrev pub invlpg_after : ℕ → Drawn
invlpg_after state =
    let cpu = next_state state in
    let address = next_state cpu in
    (Invlpg (drawn 2 cpu) (page_drawn address), address)

-- one of the eight kinds of access
abbrev pub access_drawn : ℕ → Access
access_drawn state = slice_index_or accesses (drawn 8 state) access.Ur

abbrev pub ask_after : ℕ → Drawn
ask_after state =
    let cpu = next_state state in
    let kind = next_state cpu in
    let pointer = next_state kind in
    (Ask (drawn 2 cpu) (access_drawn kind) (page_drawn pointer), pointer)

abbrev pub set_after : ℕ → Drawn
set_after state = let cpu = next_state state in (SetRoot (drawn 2 cpu), cpu)

-- the form is drawn first: of eight lines four write, two ask, one invalidates a page and one sets CR3
abbrev pub line_of_form : ℕ → ℕ → Drawn
line_of_form form state =
    if nat_lt form 4 then write_after state else
    (if form == 4 then invlpg_after state else (if form == 6 then set_after state else ask_after state))

abbrev pub line_after : ℕ → Drawn
line_after state = let form = next_state state in line_of_form (drawn 8 form) form

-- the line with a number, from 1 on, after a state: in each thousand a point, two processors that lose all, and a listing
abbrev pub numbered_line : ℕ → ℕ → Drawn
numbered_line number state =
    if number % 1000 == 0 then (Point, state) else
    (if number % 1000 == 1 then (LoseAll 0, state) else
    (if number % 1000 == 2 then (LoseAll 1, state) else
    (if number % 1000 == 500 then (ListOf, state) else line_after state)))

-- so many lines, from one with a number on
abbrev pub lines_from : ℕ → ℕ → ℕ → List Line
lines_from number zero state = []
lines_from number (suc count) state =
    let line = numbered_line number state in line.0 ∷ lines_from (number + 1) count line.1

-- the lines of the log for a seed
abbrev pub generated_lines : ℕ → ℕ → List Line
generated_lines seed count = lines_from 1 count seed

-- what a line spells
abbrev pub event_of_line : Line → Event
event_of_line Point = event.Point false
event_of_line (LoseAll cpu) = event.Invpcid cpu 2 0 0
event_of_line ListOf = event.List 0
event_of_line (Write slot entry) = event.Write slot (little_bytes 8 entry)
event_of_line (Invlpg cpu address) = event.Invlpg cpu address
event_of_line (Ask cpu access pointer) = event.Ask cpu access pointer
event_of_line (SetRoot cpu) = event.Set cpu (Cr3 root)
