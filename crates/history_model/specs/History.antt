-- The moments of a log: the one before the first event, and one after each accepted event. That events are whole steps in
-- one order is our reading; what a register holds is that of SDM 3A, "Control Registers" and "Process-Context Identifiers".
use Rattle.std.specs.Prelude.{ℕ, ◌+◌, ◌-◌, ◌*◌, ◌/◌, ◌==◌, ◌&&◌, Bool, true, List, [], ◌∷◌, length, slice_index, Option, Some, None, option_map, is_some, nat_le, nat_lt, if◌then◌else◌}
use Rattle.paging_model.specs.Memory.{Memory, Extent, byte_in}
use Rattle.paging_model.specs.Registers.{pcid_of, root_of}
use Rattle.paging_model.specs.RegisterRules.{with_change}
use Rattle.paging_model.specs.declared.registers.Machine.{Machine}
use Rattle.paging_model.specs.declared.registers.Processor.{Processor}
use Rattle.paging_model.specs.declared.registers.RegChange.{RegChange}
use Rattle.paging_model.specs.declared.registers.Regs.{Regs}
use Rattle.history_model.specs.declared.events.Event.{Event}
use Rattle.history_model.specs.declared.events.Event.TheVariants as event

-- what the core and the state lines state: known memory, the machine and whether it is stated, and the processors,
-- ascending by number
pub record Start : Type 0 where
  pub extents : List Extent
  pub stated : Bool
  pub machine : Machine
  pub processors : List Processor

-- the moments that events lead to, one after another
pub data History : Type 0 where
  begun : Start → History
  next : History → Event → History

-- a processor among others, ascending by number
abbrev pub insert_processor : Processor → List Processor → List Processor
insert_processor processor [] = processor ∷ []
insert_processor processor (one ∷ rest) =
    if nat_lt processor.number one.number then processor ∷ one ∷ rest else one ∷ insert_processor processor rest

-- processors, each inserted among those before it
abbrev pub insert_processors : List Processor → List Processor → List Processor
insert_processors before [] = before
insert_processors before (one ∷ rest) = insert_processors (insert_processor one before) rest

-- a beginning that states a machine
abbrev pub with_machine : Machine → Start → Start
with_machine machine start = record start { stated = true; machine = machine }

-- a beginning that states a processor too
abbrev pub with_processor : Processor → Start → Start
with_processor processor start = record start { processors = insert_processor processor start.processors }

-- the moment after an accepted event; a state line, which comes before the first event, makes another beginning
abbrev pub after_event : Event → History → History
after_event (event.Machine machine) (begun start) = begun (with_machine machine start)
after_event (event.Cpu cpu regs) (begun start) = begun (with_processor (record { number = cpu; regs = regs }) start)
after_event happened history = next history happened

-- what the core and the state lines of a moment state
abbrev pub start_of : History → Start
start_of (begun start) = start
start_of (next before happened) = start_of before

-- the number of events so far
abbrev pub time : History → ℕ
time (begun start) = 0
time (next before happened) = time before + 1

-- the machine, which no event changes
abbrev pub machine : History → Machine
machine history = (start_of history).machine

-- memory after bytes were written from an address on; what isn't known stays unknown
abbrev pub with_bytes : ℕ → List ℕ → Memory → Memory
with_bytes at bytes before a =
    if is_some (before a) && nat_le at a && nat_lt a (at + length bytes) then Some (slice_index bytes (a - at))
    else before a

-- what an event makes of memory
abbrev pub memory_after : Event → Memory → Memory
memory_after (event.Write at bytes) before = with_bytes at bytes before
memory_after _ before = before

-- what is known of physical memory
abbrev pub memory : History → Memory
memory (begun start) = byte_in start.extents
memory (next before happened) = memory_after happened (memory before)

-- ascending numbers and one more, each of them once
abbrev pub with_number : ℕ → List ℕ → List ℕ
with_number n [] = n ∷ []
with_number n (one ∷ rest) =
    if n == one then one ∷ rest else (if nat_lt n one then n ∷ one ∷ rest else one ∷ with_number n rest)

-- the first byte of the 4-KByte page of an address
abbrev pub page_of : ℕ → ℕ
page_of a = a / 4096 * 4096

-- the physical pages that were written to, ascending by address
abbrev pub pages : History → List ℕ
pages (begun start) = []
pages (next before (event.Write at bytes)) = with_number (page_of at) (pages before)
pages (next before _) = pages before

-- a change of one processor's registers
abbrev pub set_in : ℕ → RegChange → List Processor → List Processor
set_in cpu change [] = []
set_in cpu change (one ∷ rest) =
    (if one.number == cpu then (record one { regs = with_change change one.regs }) else one) ∷ set_in cpu change rest

-- what an event makes of the processors' registers
abbrev pub processors_after : Event → List Processor → List Processor
processors_after (event.Set cpu change) before = set_in cpu change before
processors_after _ before = before

-- the processors and their registers, ascending by number
abbrev pub processors : History → List Processor
processors (begun start) = start.processors
processors (next before happened) = processors_after happened (processors before)

-- the registers of the first processor of a number
abbrev pub regs_in : List Processor → ℕ → Option Regs
regs_in [] cpu = None
regs_in (one ∷ rest) cpu = if one.number == cpu then Some one.regs else regs_in rest cpu

-- a processor's registers; none where the processor isn't known
abbrev pub regs : History → ℕ → Option Regs
regs history cpu = regs_in (processors history) cpu

-- the PCID that a processor is in
abbrev pub pcid : History → ℕ → Option ℕ
pcid history cpu = option_map pcid_of (regs history cpu)

-- ascending numbers, and the PCID of a known processor
abbrev pub with_pcid : Option ℕ → List ℕ → List ℕ
with_pcid None pcids = pcids
with_pcid (Some one) pcids = with_number one pcids

-- the visited PCIDs of a processor: those that it has been in, ascending
abbrev pub visited_pcids : History → ℕ → List ℕ
visited_pcids (begun start) cpu = with_pcid (pcid (begun start) cpu) []
visited_pcids (next before happened) cpu = with_pcid (pcid (next before happened) cpu) (visited_pcids before cpu)

-- the root of these registers, where they are in the PCID, else an earlier one
abbrev pub last_root_under : Machine → Option Regs → ℕ → Option ℕ → Option ℕ
last_root_under machine None c earlier = earlier
last_root_under machine (Some known) c earlier = if pcid_of known == c then Some (root_of known machine) else earlier

-- the last root of a PCID: the root that a processor had last in it; none where the processor wasn't in it
abbrev pub last_root : History → ℕ → ℕ → Option ℕ
last_root (begun start) cpu c = last_root_under start.machine (regs (begun start) cpu) c None
last_root (next before happened) cpu c =
    last_root_under (machine before) (regs (next before happened) cpu) c (last_root before cpu c)
