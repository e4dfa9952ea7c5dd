-- A core that a file states has few processors, each with a number of its own, and allowed by the machine.
use Rattle.std.proofs.Common.{◌≡◌, ◌≢◌, ℕ, ◌<◌, Bool, true, false, cond, List, [], ◌∷◌, length, get_or, Option, Some, None, Result, Ok, Err, refl, subst, arith, inl, inr, length-append}
use Rattle.std.specs.Prelude.{◌⊎◌, ◌==◌, not, nat_le}
use Rattle.std.specs.List.{list_any}
use Rattle.std.proofs.lemmas.Bool.{eqb-true, eq-eqb, leb-false, not-false}
use Rattle.std.proofs.lemmas.List.Folds.{list_any_at}
use Rattle.std.proofs.lemmas.List.Quantifiers.{all_pairs_push}
use Rattle.std.proofs.lemmas.List.Elements.{All-push}
use Rattle.paging_model.specs.Memory.{Extent}
use Rattle.paging_model.specs.RegisterRules.{check_of}
use Rattle.paging_model.specs.declared.registers.Machine.{Machine}
use Rattle.paging_model.specs.declared.registers.RegRule.{RegRule}
use Rattle.elf_core.specs.Steps.{◌>>=◌, steps_over}
use Rattle.elf_core.specs.FileHeader.{file_header_check, e_phnum}
use Rattle.elf_core.specs.ProgramHeaders.{program_header, is_load, is_note, segment_of, notes_of}
use Rattle.elf_core.specs.Notes.{NoteParts, all_notes}
use Rattle.elf_core.specs.ProcessorLists.{has_number}
use Rattle.elf_core.specs.StateNotes.{is_state_note, is_machine, machine_stated, processor_number_at, regs_at, has_zeros, if_allowed, processor_stated, of_machine, of_processor, statement_of}
use Rattle.elf_core.specs.Cores.{blank_core, with_segment, with_statement, after_statement, after_note, after_notes, after_header, after_headers, indices_from, core_of, IsConsistent}
use Rattle.elf_core.specs.declared.core_file.Core.{Core}
use Rattle.paging_model.specs.declared.registers.Processor.{Processor}
use Rattle.elf_core.specs.declared.core_file.Statement.{Statement}
use Rattle.elf_core.specs.declared.core_file.Statement.TheVariants as statement
use Rattle.elf_core.specs.declared.faults.NoteRule.{NoteRule}
use Rattle.elf_core.specs.declared.faults.NoteRule.TheVariants as rule

-- ---- what came of steps and tests

-- the value of a step that did not fail
bind_ok : {A B E : Type 0} (first : Result A E) (next : A → Result B E) (b : B) → (first >>= next) ≡ Ok b → (a : A) × (first ≡ Ok a) × (next a ≡ Ok b)
bind_ok (Ok a) next b h = (a, refl, h)
bind_ok (Err fault) next b h = absurd cc

-- a rule that is not broken
passed : {A E : Type 0} (broken : Bool) (fault : E) (rest : Result A E) (a : A) → cond broken (Err fault) rest ≡ Ok a → (broken ≡ false) × (rest ≡ Ok a)
passed true fault rest a h = absurd cc
passed false fault rest a h = (refl, h)

-- which of two values it is
chosen : {A : Type 0} (b : Bool) (x y z : A) → cond b x y ≡ z → ((b ≡ true) × (x ≡ z)) ⊎ ((b ≡ false) × (y ≡ z))
chosen true x y z h = inl (refl, h)
chosen false x y z h = inr (refl, h)

abbrev ok_of : {A E : Type 0} → A → Result A E
ok_of a = Ok a

abbrev err_of : {A E : Type 0} → E → Result A E
err_of fault = Err fault

-- the same answer has the same value
ok_is : {A E : Type 0} (a b : A) → ok_of {E = E} a ≡ ok_of b → a ≡ b
ok_is a b h = cc

-- what each step keeps, all keep
kept : {S A E : Type 0} (P : S → Type 0) (step : S → A → Result S E) → ((s : S) (item : A) (next : S) → P s → step s item ≡ Ok next → P next) → (items : List A) (s last : S) → P s → steps_over step s items ≡ Ok last → P last
unfolding steps_over
kept P step keeps [] s last holds h = subst P (ok_is s last h) holds
kept P step keeps (item ∷ items) s last holds h =
    let first = bind_ok (step s item) (λ next. steps_over step next items) last h in
    kept P step keeps items first.0 last (keeps s item first.0 holds first.1) first.2

-- ---- statements

-- the machine is stated before all processors
no_processors : (core : Core) (description : List ℕ) (machine : Machine) → machine_stated core description ≡ Ok machine → length core.processors ≡ 0
unfolding machine_stated
no_processors core description machine h =
    let size = passed (not (length description == 8)) rule.Size _ machine h in
    let range = passed (not (is_machine description)) rule.Range _ machine size.1 in
    let late = passed (not (length core.processors == 0)) rule.Late _ machine range.1 in
    eqb-true (length core.processors) 0 (not-false (length core.processors == 0) late.0)

record IsNew (core : Core) (processor : Processor) : Type 0 where
  number : list_any (has_number processor.number) core.processors ≡ false
  room : length core.processors < 64
  regs : check_of core.machine processor.regs ≡ Ok tt

allowed_is : (made processor : Processor) (answer : Result (Unit {0}) RegRule) → if_allowed made answer ≡ Ok processor → (made ≡ processor) × (answer ≡ Ok tt)
allowed_is made processor (Ok u) h = (ok_is made processor h, refl)
allowed_is made processor (Err broken) h = absurd cc

-- a processor that is stated is new, there is room for it, and it is allowed
new_processor : (core : Core) (description : List ℕ) (processor : Processor) → processor_stated core description ≡ Ok processor → IsNew core processor
unfolding processor_stated
new_processor core description processor h =
    let size = passed (not (length description == 64)) rule.Size _ processor h in
    let zeros = passed (not (has_zeros description)) rule.Zero _ processor size.1 in
    let twice = passed (list_any (has_number (processor_number_at description)) core.processors) rule.Twice _ processor zeros.1 in
    let room = passed (nat_le 64 (length core.processors)) rule.TooMany _ processor twice.1 in
    let made : Processor = record { number = processor_number_at description; regs = regs_at description } in
    let fine = allowed_is made processor (check_of core.machine (regs_at description)) room.1 in
    subst (IsNew core) fine.0 (record { number = twice.0; room = leb-false 64 (length core.processors) room.0; regs = fine.1 })

-- a machine before all processors, and a processor that is new
with_machine : (core : Core) (machine : Machine) → length core.processors ≡ 0 → IsConsistent core → IsConsistent (with_statement core (statement.Machine machine))
with_machine core machine none consistent = record {
  few = consistent.few;
  distinct = consistent.distinct;
  allowed = λ k d within. absurd (omega arith);
  unstated = λ h. absurd cc;
}

-- no processor that is there has the number
other_number : (core : Core) (processor : Processor) → IsNew core processor → (k : ℕ) (d : Processor) → k < length core.processors → (get_or core.processors k d).number ≢ processor.number
other_number core processor new k d within same =
    let there = list_any_at (has_number processor.number) core.processors k d within (eq-eqb _ _ same) in
    absurd (cc (there, new.number))

with_processor : (core : Core) (processor : Processor) → IsNew core processor → IsConsistent core → IsConsistent (with_statement core (statement.Processor processor))
with_processor core processor new consistent = record {
  few = omega (arith, new.room, length-append core.processors (processor ∷ []));
  distinct = all_pairs_push (λ one other. one.number ≢ other.number) core.processors processor consistent.distinct (λ k d within same. other_number core processor new k d within same);
  allowed = All-push (λ p. check_of core.machine p.regs ≡ Ok tt) core.processors processor consistent.allowed new.regs;
  unstated = consistent.unstated;
}

never : {A E : Type 0} {fault : E} {a : A} → err_of fault ≡ ok_of a → ⊥
never h = cc

machine_keeps : (core : Core) (description : List ℕ) (stated : Statement) (answer : Result Machine NoteRule) → machine_stated core description ≡ answer → IsConsistent core → of_machine answer ≡ Ok stated → IsConsistent (with_statement core stated)
machine_keeps core description stated (Ok machine) answered consistent h =
    subst (λ s. IsConsistent (with_statement core s)) (ok_is (statement.Machine machine) stated h) (with_machine core machine (no_processors core description machine answered) consistent)
machine_keeps core description stated (Err broken) answered consistent h = absurd cc

processor_keeps : (core : Core) (description : List ℕ) (stated : Statement) (answer : Result Processor NoteRule) → processor_stated core description ≡ answer → IsConsistent core → of_processor answer ≡ Ok stated → IsConsistent (with_statement core stated)
processor_keeps core description stated (Ok processor) answered consistent h =
    subst (λ s. IsConsistent (with_statement core s)) (ok_is (statement.Processor processor) stated h) (with_processor core processor (new_processor core description processor answered) consistent)
processor_keeps core description stated (Err broken) answered consistent h = absurd cc

-- what a state note states
statement_keeps : (core : Core) (note : NoteParts) (stated : Statement) → IsConsistent core → statement_of core note ≡ Ok stated → IsConsistent (with_statement core stated)
unfolding statement_of
statement_keeps core note stated consistent h =
    elim (chosen (note.kind == 1) (of_machine (machine_stated core note.description)) _ (Ok stated) h) [
      | inl first ↦ machine_keeps core note.description stated (machine_stated core note.description) refl consistent first.1
      | inr other ↦ elim (chosen (note.kind == 2) (of_processor (processor_stated core note.description)) (Err rule.Kind) (Ok stated) other.1) [
        | inl second ↦ processor_keeps core note.description stated (processor_stated core note.description) refl consistent second.1
        | inr third ↦ absurd (never third.1)
      ]
    ]

-- ---- notes and headers

added : (number : ℕ) (core : Core) (note : NoteParts) (next : Core) (answer : Result Statement NoteRule) → statement_of core note ≡ answer → IsConsistent core → after_statement number core answer ≡ Ok next → IsConsistent next
added number core note next (Ok stated) answered consistent h =
    subst IsConsistent (ok_is (with_statement core stated) next h) (statement_keeps core note stated consistent answered)
added number core note next (Err broken) answered consistent h = absurd cc

note_keeps : (number : ℕ) (core : Core) (note : Option NoteParts) (next : Core) → IsConsistent core → after_note number core note ≡ Ok next → IsConsistent next
unfolding after_note
note_keeps number core None next consistent h = absurd cc
note_keeps number core (Some note) next consistent h =
    elim (chosen (is_state_note note) (after_statement number core (statement_of core note)) (Ok core) (Ok next) h) [
      | inl own ↦ added number core note next (statement_of core note) refl consistent own.1
      | inr foreign ↦ subst IsConsistent (ok_is core next foreign.1) consistent
    ]

segment_keeps : (core : Core) (segment : Option Extent) → IsConsistent core → IsConsistent (with_segment core segment)
segment_keeps core None consistent = consistent
segment_keeps core (Some segment) consistent = record {
  few = consistent.few;
  distinct = consistent.distinct;
  allowed = consistent.allowed;
  unstated = consistent.unstated;
}

header_keeps : (bytes : List ℕ) (core : Core) (number : ℕ) (next : Core) → IsConsistent core → after_header bytes core number ≡ Ok next → IsConsistent next
unfolding after_header
header_keeps bytes core number next consistent h =
    let header = program_header bytes number in
    elim (chosen (is_load header) (segment_of bytes number header >>= λ segment. Ok (with_segment core segment)) _ (Ok next) h) [
      | inl load ↦
          let placed = bind_ok (segment_of bytes number header) (λ segment. Ok (with_segment core segment)) next load.1 in
          subst IsConsistent (ok_is (with_segment core placed.0) next placed.2) (segment_keeps core placed.0 consistent)
      | inr other ↦ elim (chosen (is_note header) (notes_of bytes number header >>= λ notes. after_notes number core (all_notes notes)) (Ok core) (Ok next) other.1) [
        | inl named ↦
            let notes = bind_ok (notes_of bytes number header) (λ notes. after_notes number core (all_notes notes)) next named.1 in
            kept IsConsistent (after_note number) (note_keeps number) (all_notes notes.0) core next consistent notes.2
        | inr foreign ↦ subst IsConsistent (ok_is core next foreign.1) consistent
      ]
    ]

blank_is_consistent : IsConsistent blank_core
blank_is_consistent = record {
  few = omega arith;
  distinct = λ i j d before within. absurd (omega arith);
  allowed = λ k d within. absurd (omega arith);
  unstated = λ h. refl;
}

-- a core that a file states
pub core_is_consistent : (bytes : List ℕ) (core : Core) → core_of bytes ≡ Ok core → IsConsistent core
unfolding core_of
core_is_consistent bytes core h =
    let checked = bind_ok (file_header_check bytes) (λ _. after_headers bytes blank_core (indices_from 0 (e_phnum bytes))) core h in
    kept IsConsistent (after_header bytes) (header_keeps bytes) (indices_from 0 (e_phnum bytes)) blank_core core blank_is_consistent checked.2
