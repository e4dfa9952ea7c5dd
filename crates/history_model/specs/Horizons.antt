-- How far back what a processor may hold reaches, and processors for which nothing has changed since. Our own words, over
-- SDM 3A, "Operations that Invalidate TLBs and Paging-Structure Caches".
use Rattle.std.specs.Prelude.{◌≡◌, ℕ, ◌+◌, ◌≤◌, Bool, true, false, if◌then◌else◌, List, [], ◌∷◌, length, Option, Some, None, option_map, nat_lt, min}
use Rattle.paging_model.specs.Counting.{IsIn}
use Rattle.paging_model.specs.Registers.{root_of}
use Rattle.paging_model.specs.declared.registers.Processor.{Processor}
use Rattle.paging_model.specs.declared.registers.Regs.{Regs}
use Rattle.paging_model.specs.declared.spaces.SpaceKey.{SpaceKey}
use Rattle.history_model.specs.History.{History, begun, next, time, machine, processors, regs, visited_pcids, last_root, page_of, with_number}
use Rattle.history_model.specs.Invalidations.{loses_all}
use Rattle.history_model.specs.KeptSpaces.{slots_written, space_of}
use Rattle.history_model.specs.declared.events.Event.{Event}
use Rattle.history_model.specs.declared.events.Event.TheVariants as event

-- an event takes everything from a processor
abbrev pub takes_all : Event → ℕ → Option Regs → Bool
takes_all happened cpu None = false
takes_all happened cpu (Some known) = loses_all happened cpu known

-- the last time at which a processor lost everything, or 0
abbrev pub horizon : History → ℕ → ℕ
horizon (begun start) cpu = 0
horizon (next before happened) cpu =
    if takes_all happened cpu (regs before cpu) then time before + 1 else horizon before cpu

-- the least of a number and the horizons of these processors
abbrev pub least_of : History → List Processor → ℕ → ℕ
least_of history [] least = least
least_of history (one ∷ rest) least = least_of history rest (min (horizon history one.number) least)

-- the least horizon of all processors; without processors it is now
abbrev pub least : History → ℕ
least history = least_of history (processors history) (time history)

-- the number of slots of memory, one of them for each entry, that an event writes to
abbrev pub slots_of : Event → ℕ
slots_of (event.Write at bytes) = slots_written at (length bytes)
slots_of _ = 0

-- the number of pairs of a write after a time and a slot that it writes to
abbrev pub changes_after : History → ℕ → ℕ
changes_after (begun start) t = 0
changes_after (next before happened) t =
    changes_after before t + (if nat_lt t (time before + 1) then slots_of happened else 0)

-- ascending pages, and that of an event that writes
abbrev pub with_page : Event → List ℕ → List ℕ
with_page (event.Write at bytes) pages = with_number (page_of at) pages
with_page _ pages = pages

-- the pages that are written to after a time, ascending
abbrev pub pages_after : History → ℕ → List ℕ
pages_after (begun start) t = []
pages_after (next before happened) t =
    if nat_lt t (time before + 1) then with_page happened (pages_after before t) else pages_after before t

-- the number of pairs of a write since the least horizon and a slot that it writes to
abbrev pub changes : History → ℕ
changes history = changes_after history (least history)

-- the number of the pages that are written to since the least horizon
abbrev pub frames : History → ℕ
frames history = length (pages_after history (least history))

-- a moment on the way to another, or the other itself
pub data IsUpTo (moment : History) : History → Type 0 where
  here : IsUpTo moment moment
  later : {history : History} (happened : Event) → IsUpTo moment history → IsUpTo moment (next history happened)

-- a processor's space at a moment
abbrev pub space : History → ℕ → Option SpaceKey
space history cpu = option_map (λ known. space_of (machine history) known) (regs history cpu)

-- the event writes to memory
abbrev pub is_memory_write : Event → Bool
is_memory_write (event.Write _ _) = true
is_memory_write _ = false

-- nothing that a processor's walks depend on has changed since its horizon, and in each PCID it had the present root
pub record IsStill (history : History) (cpu : ℕ) : Type 0 where
  pub unwritten : (before : History) (happened : Event) → IsUpTo (next before happened) history
      → horizon history cpu ≤ time before → is_memory_write happened ≡ false
  pub same_space : (moment : History) → IsUpTo moment history → horizon history cpu ≤ time moment
      → space moment cpu ≡ space history cpu
  pub same_root : (moment : History) (c : ℕ) → IsUpTo moment history
      → horizon history cpu ≤ time moment → IsIn c (visited_pcids moment cpu)
      → last_root moment cpu c ≡ option_map (λ known. root_of known (machine history)) (regs history cpu)
