-- No line of a generated log is refused: each one leaves the moment as the next one needs it.
use Rattle.std.proofs.Common.{◌≡◌, ℕ, zero, suc, ◌+◌, ◌-◌, ◌%◌, ◌==◌, ◌<◌, ◌≤◌, List, length, map, Bool, true, false, Some, None, is_some, refl, ap, ◌∙◌, arith}
use Rattle.std.proofs.lemmas.Bool.{eq-eqb}
use Rattle.std.specs.Prelude.{◌&&◌, not, nat_le}
use Rattle.byteorder.specs.Endian.{little_bytes}
use Rattle.paging_model.specs.Memory.{Memory}
use Rattle.paging_model.specs.declared.registers.Machine.{Machine}
use Rattle.paging_model.specs.declared.registers.Processor.{Processor}
use Rattle.paging_model.specs.declared.registers.RegChange.TheVariants.{Cr3}
use Rattle.history_model.specs.History.{History, begun, next, after_event, machine, memory, page_of, pages, processors, regs, regs_in, set_in}
use Rattle.history_model.specs.Refusals.{first_unknown, if_unknown, invpcid_refusal, is_among, of_known, page_limit, refusal, write_refusal}
use Rattle.history_model.specs.declared.events.Event.TheVariants as event
use Rattle.image_gen.specs.Accepted.{AreAccepted, generated_start}
use Rattle.image_gen.specs.StatedCore.{stated_regs}
use Rattle.image_gen.specs.GeneratedLog.{event_of_line, generated_lines, lines_from, numbered_line}
use Rattle.image_gen.specs.GeneratedTables.{root}
use Rattle.image_gen.specs.declared.lines.Line.{Line}
use Rattle.image_gen.specs.declared.lines.Line.TheVariants.{Point, LoseAll, List as ListOf, Write, Invlpg, Ask, SetRoot}
use Rattle.image_gen.proofs.KnownMemory.{start-known, written-known}
use Rattle.image_gen.proofs.StartFacts.{AreAscending, IsPlain, ascending-few, ascending-with, line-plain, regs-known, root-again}

-- what each line needs of the moment before it: the beginning's machine and processors, 1 MByte of known bytes, and few
-- pages that were written to
record HasAll (machine : Machine) (processors : List Processor) (memory : Memory) (pages : List ℕ) : Type 0 where
  machine_is : machine ≡ generated_start.machine
  processors_are : processors ≡ generated_start.processors
  known : (a : ℕ) → a < 1048576 → is_some (memory a) ≡ true
  pages_are : AreAscending 0 pages

abbrev IsReady : History → Type 0
IsReady moment = HasAll (machine moment) (processors moment) (memory moment) (pages moment)

ready-first : IsReady (begun generated_start)
ready-first = record { machine_is = refl; processors_are = refl; known = start-known; pages_are = tt }

ready-regs : (moment : History) → IsReady moment → (cpu : ℕ) → cpu < 2 → regs moment cpu ≡ Some stated_regs
ready-regs moment ready cpu within = ap (λ (all : List Processor). regs_in all cpu) ready.processors_are ∙ regs-known cpu within

-- eight known bytes of one page may be written
all-known : (memory : Memory) (a n : ℕ) → a + n ≤ 1048576 → ((b : ℕ) → b < 1048576 → is_some (memory b) ≡ true) → first_unknown memory a n ≡ None
all-known memory a zero within known = refl
all-known memory a (suc n) within known =
    let first = known a (omega (arith, within)) in rw first (all-known memory (a + 1) n (omega (arith, within)) known)

one-page : (at : ℕ) → at % 8 ≡ 0 → (page_of (at + 8 - 1) == page_of at) ≡ true
one-page at aligned = eq-eqb _ _ (omega (arith, aligned))

not-full : (among : Bool) → (not among && false) ≡ false
not-full true = refl
not-full false = refl

write-accepted : (memory : Memory) (written : List ℕ) (at : ℕ) → first_unknown memory at 8 ≡ None → at % 8 ≡ 0 → nat_le page_limit (length written) ≡ false
    → write_refusal memory written at 8 ≡ None
write-accepted memory written at known aligned few =
    let room = not-full (is_among (page_of at) written) in
    rw (known, one-page at aligned, few, room) refl

ready-written : (moment : History) (at : ℕ) (bytes : List ℕ) → IsReady moment → at + 8 ≤ 131072 → IsReady (next moment (event.Write at bytes))
ready-written moment at bytes ready within = record {
  machine_is = ready.machine_is;
  processors_are = ready.processors_are;
  known = λ a below. written-known at bytes (memory moment) a (ready.known a below);
  pages_are = ascending-with (page_of at) 0 (pages moment) (omega arith) (omega (arith, within)) ready.pages_are;
}

-- the root may be written to CR3 again
set-accepted : (moment : History) → IsReady moment → (cpu : ℕ) → cpu < 2 → refusal moment (event.Set cpu (Cr3 root)) ≡ None
set-accepted moment ready cpu within =
    let now = ready-regs moment ready cpu within in
    let same = ready.machine_is in
    rw (now, same) refl

ready-set : (moment : History) (cpu : ℕ) → IsReady moment → IsReady (next moment (event.Set cpu (Cr3 root)))
ready-set moment cpu ready = record {
  machine_is = ready.machine_is;
  processors_are = ap (set_in cpu (Cr3 root)) ready.processors_are ∙ root-again cpu;
  known = ready.known;
  pages_are = ready.pages_are;
}

invpcid-accepted : (moment : History) → IsReady moment → (cpu : ℕ) → cpu < 2 → refusal moment (event.Invpcid cpu 2 0 0) ≡ None
invpcid-accepted moment ready cpu within = ap (of_known cpu (λ known. invpcid_refusal 2 0 0 known)) (ready-regs moment ready cpu within)

known-accepted : (moment : History) → IsReady moment → (cpu : ℕ) → cpu < 2 → if_unknown cpu (regs moment cpu) ≡ None
known-accepted moment ready cpu within = ap (if_unknown cpu) (ready-regs moment ready cpu within)

-- a line isn't refused, and leaves a moment that is ready for the next one
abbrev GoesOn : History → Line → Type 0
GoesOn moment line = (refusal moment (event_of_line line) ≡ None) × IsReady (after_event (event_of_line line) moment)

-- what changes neither memory nor registers leaves what the next line needs
goes-on : (moment : History) → IsReady moment → (line : Line) → IsPlain line → GoesOn moment line
goes-on moment ready Point plain = (refl, ready)
goes-on moment ready (LoseAll cpu) plain = (invpcid-accepted moment ready cpu plain, ready)
goes-on moment ready ListOf plain = (known-accepted moment ready 0 (omega arith), ready)
goes-on moment ready (Write slot entry) plain =
    let within = plain.1 in
    let known = all-known (memory moment) slot 8 (omega (arith, within)) ready.known in (
      write-accepted (memory moment) (pages moment) slot known plain.0 (ascending-few (pages moment) ready.pages_are),
      ready-written moment slot (little_bytes 8 entry) ready plain.1,
    )
goes-on moment ready (Invlpg cpu address) plain = (known-accepted moment ready cpu plain, ready)
goes-on moment ready (Ask cpu access pointer) plain = (known-accepted moment ready cpu plain, ready)
goes-on moment ready (SetRoot cpu) plain = (set-accepted moment ready cpu plain, ready-set moment cpu ready)

each-accepted : (number count state : ℕ) (moment : History) → IsReady moment → AreAccepted moment (map event_of_line (lines_from number count state))
each-accepted number zero state moment ready = tt
each-accepted number (suc count) state moment ready =
    let on = goes-on moment ready (numbered_line number state).0 (line-plain number state) in
    (on.0, each-accepted (number + 1) count (numbered_line number state).1 (after_event (event_of_line (numbered_line number state).0) moment) on.1)

pub none-refused : (seed count : ℕ) → AreAccepted (begun generated_start) (map event_of_line (generated_lines seed count))
none-refused seed count = each-accepted 1 count seed (begun generated_start) ready-first
