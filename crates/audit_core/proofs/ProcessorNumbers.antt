-- Lists of processors, by their numbers: inserting a processor, and changing one.
use Rattle.std.proofs.Common.{◌≡◌, ◌≢◌, ℕ, zero, suc, ◌<◌, ◌≤◌, ◌+◌, Bool, true, false, cond, List, [], ◌∷◌, length, get_or, set, Option, Some, None, refl, subst, arith, ap, sym}
use Rattle.std.specs.Prelude.{◌==◌, not, nat_lt, insert, position, unwrap_or, AllPairs}
use Rattle.std.specs.List.{position_or_len}
use Rattle.std.proofs.lemmas.Bool.{eqb-true, eqb-false, eq-eqb, ne_eqb}
use Rattle.std.proofs.lemmas.Bool.Decides.{nat_tests}
use Rattle.std.proofs.lemmas.List.Quantifiers.{position-Some}
use Rattle.paging_model.specs.RegisterRules.{with_change}
use Rattle.paging_model.specs.declared.registers.Processor.{Processor}
use Rattle.paging_model.specs.declared.registers.RegChange.{RegChange}
use Rattle.paging_model.specs.declared.registers.Regs.{Regs}
use Rattle.elf_core.specs.ProcessorLists.{has_number}
use Rattle.history_model.specs.History.{insert_processor, regs_in, set_in}
use Rattle.audit_core.specs.ProcessorNumbers.{HaveDistinctNumbers, HaveNewNumbers, has_greater_number}

-- ---- distinct numbers

eqb-sym_false : (m n : ℕ) → (m == n) ≡ false → (n == m) ≡ false
eqb-sym_false m n h = ne_eqb n m (λ is. eqb-false m n h (sym is))

-- a choice of a value and a rest is none where the rest is none and chosen
cond-none : {A : Type 0} (b : Bool) (x : A) (rest : Option A) → cond b (Some x) rest ≡ None
    → (b ≡ false) × (rest ≡ None)
cond-none true x rest h = absurd cc
cond-none false x rest h = (refl, h)

-- a number that no processor has is neither the first one's nor one of the rest
regs_in-none : (one : Processor) (rest : List Processor) (m : ℕ) → regs_in (one ∷ rest) m ≡ None
    → ((one.number == m) ≡ false) × (regs_in rest m ≡ None)
regs_in-none one rest m h = cond-none (one.number == m) one.regs (regs_in rest m) h

-- ---- inserting one

-- the index is in the list or at its end
pub index_within : (test : Processor → Bool) (processors : List Processor)
    → position_or_len test processors ≤ length processors
index_within test [] = omega arith
index_within test (one ∷ rest) =
    elim (test one) as (λ there. cond (not there) (1 + position_or_len test rest) 0 ≤ length (one ∷ rest)) [
      | true ↦ omega arith
      | false ↦ omega (arith, index_within test rest)
    ]

-- the end stands for an index that isn't found
pub index_is : (test : Processor → Bool) (processors : List Processor)
    → unwrap_or (position test processors) (length processors) ≡ position_or_len test processors
index_is test processors = ends (position_or_len test processors) (length processors) (index_within test processors)
  where
    ends : (index n : ℕ) → index ≤ n → unwrap_or (cond (nat_lt index n) (Some index) None) n ≡ index
    ends index n within = grind (arith, nat_tests)

-- inserting a processor makes no other number known
regs_in-insert : (processor : Processor) (processors : List Processor) (m : ℕ) → (processor.number == m) ≡ false
    → regs_in processors m ≡ None → regs_in (insert_processor processor processors) m ≡ None
regs_in-insert processor [] m other none = rw other refl
regs_in-insert processor (one ∷ rest) m other none =
    let neither = regs_in-none one rest m none in
    elim (nat_lt processor.number one.number)
    as (λ before. regs_in (cond before (processor ∷ one ∷ rest) (one ∷ insert_processor processor rest)) m ≡ None) [
      | true ↦ rw (other, neither.0) neither.1
      | false ↦ rw neither.0 (regs_in-insert processor rest m other neither.1)
    ]

-- numbers stay distinct where a processor of a new number is inserted
pub distinct_insert : (processor : Processor) (processors : List Processor) → HaveDistinctNumbers processors
    → regs_in processors processor.number ≡ None → HaveDistinctNumbers (insert_processor processor processors)
distinct_insert processor [] distinct new = (refl, tt)
distinct_insert processor (one ∷ rest) distinct new =
    let neither = regs_in-none one rest processor.number new in
    let apart = eqb-sym_false one.number processor.number neither.0 in
    elim (nat_lt processor.number one.number)
    as (λ before. HaveDistinctNumbers (cond before (processor ∷ one ∷ rest) (one ∷ insert_processor processor rest))) [
      | true ↦ (new, distinct)
      | false ↦
          (regs_in-insert processor rest one.number apart distinct.0, distinct_insert processor rest distinct.1 neither.1)
    ]

-- a processor is inserted before the first one of a greater number
pub insert_is : (processor : Processor) (processors : List Processor)
    → insert processors (position_or_len (has_greater_number processor.number) processors) processor
    ≡ insert_processor processor processors
insert_is processor [] = refl
insert_is processor (one ∷ rest) =
    let later = position_or_len (has_greater_number processor.number) rest in
    elim (nat_lt processor.number one.number)
    as (λ before. insert (one ∷ rest) (cond (not before) (1 + later) 0) processor
    ≡ cond before (processor ∷ one ∷ rest) (one ∷ insert_processor processor rest)) [
      | true ↦ refl
      | false ↦
          let next : 1 + later ≡ suc later = omega arith in
          rw next (ap (λ after. one ∷ after) (insert_is processor rest))
    ]

-- ---- inserting all

distinct-are_new : (before : List Processor) (processors : List Processor)
    → AllPairs (λ one other. one.number ≢ other.number) processors
    → ((k : ℕ) (d : Processor) → k < length processors → regs_in before (get_or processors k d).number ≡ None)
    → HaveNewNumbers before processors
distinct-are_new before [] apart unknown = tt
distinct-are_new before (one ∷ rest) apart unknown = (
  unknown zero one (omega arith),
  distinct-are_new (insert_processor one before) rest
      (λ i j d below within. apart (suc i) (suc j) d (omega arith) (omega arith))
      (λ k d within. regs_in-insert one before (get_or rest k d).number
      (ne_eqb one.number (get_or rest k d).number (apart zero (suc k) d (omega arith) (omega arith)))
      (unknown (suc k) d (omega arith))),
)

-- distinct numbers are new where no processor is known
pub distinct_are_new : (processors : List Processor) → AllPairs (λ one other. one.number ≢ other.number) processors
    → HaveNewNumbers [] processors
distinct_are_new processors apart = distinct-are_new [] processors apart (λ k d within. refl)

-- ---- changing one

-- where no processor has the number, nothing is changed
set_in-none : (cpu : ℕ) (change : RegChange) (processors : List Processor) → regs_in processors cpu ≡ None
    → set_in cpu change processors ≡ processors
set_in-none cpu change [] none = refl
set_in-none cpu change (one ∷ rest) none =
    let neither = regs_in-none one rest cpu none in
    rw neither.0 (ap (λ after. one ∷ after) (set_in-none cpu change rest neither.1))

-- other registers make no number known
regs_in-set : (processors : List Processor) (i : ℕ) (d : Processor) (regs : Regs) (m : ℕ) → regs_in processors m ≡ None
    → regs_in (set processors i (record (get_or processors i d) { regs = regs })) m ≡ None
regs_in-set [] i d regs m none = refl
regs_in-set (one ∷ rest) zero d regs m none =
    let neither = regs_in-none one rest m none in
    rw neither.0 neither.1
regs_in-set (one ∷ rest) (suc i) d regs m none =
    let neither = regs_in-none one rest m none in
    rw neither.0 (regs_in-set rest i d regs m neither.1)

-- numbers stay distinct where one processor gets other registers
pub distinct_set : (processors : List Processor) (i : ℕ) (d : Processor) (regs : Regs) → HaveDistinctNumbers processors
    → HaveDistinctNumbers (set processors i (record (get_or processors i d) { regs = regs }))
distinct_set [] i d regs distinct = tt
distinct_set (one ∷ rest) zero d regs distinct = distinct
distinct_set (one ∷ rest) (suc i) d regs distinct =
    (regs_in-set rest i d regs one.number distinct.0, distinct_set rest i d regs distinct.1)

-- a known number isn't that of a processor before it
before-other : (one : Processor) (rest : List Processor) (n : ℕ) (regs : Regs) → regs_in rest one.number ≡ None
    → regs_in rest n ≡ Some regs → (one.number == n) ≡ false
before-other one rest n regs none known = ne_eqb one.number n (λ is.
    let unknown : regs_in rest n ≡ None = subst (λ m. regs_in rest m ≡ None) is none in absurd (cc (known, unknown)))

-- the registers of the processor at an index are those of its number
pub regs_at : (processors : List Processor) (i : ℕ) (d : Processor) → HaveDistinctNumbers processors
    → i < length processors
    → regs_in processors (get_or processors i d).number ≡ Some (get_or processors i d).regs
regs_at [] i d distinct within = absurd (omega arith)
regs_at (one ∷ rest) zero d distinct within = rw (eq-eqb one.number one.number refl) refl
regs_at (one ∷ rest) (suc i) d distinct within =
    let known = regs_at rest i d distinct.1 (omega arith) in
    rw (before-other one rest (get_or rest i d).number (get_or rest i d).regs distinct.0 known) known

-- changing the processor at an index is changing that of its number
pub set_at : (change : RegChange) (processors : List Processor) (i : ℕ) (d : Processor)
    → HaveDistinctNumbers processors → i < length processors
    → set processors i (record (get_or processors i d) { regs = with_change change (get_or processors i d).regs })
    ≡ set_in (get_or processors i d).number change processors
set_at change [] i d distinct within = absurd (omega arith)
set_at change (one ∷ rest) zero d distinct within =
    rw (eq-eqb one.number one.number refl)
    (ap (λ after. record one { regs = with_change change one.regs } ∷ after)
    (sym (set_in-none one.number change rest distinct.0)))
set_at change (one ∷ rest) (suc i) d distinct within =
    let known = regs_at rest i d distinct.1 (omega arith) in
    rw (before-other one rest (get_or rest i d).number (get_or rest i d).regs distinct.0 known)
    (ap (λ after. one ∷ after) (set_at change rest i d distinct.1 (omega arith)))

-- ---- finding one

-- a processor that is found has the number
pub found_is : (cpu : ℕ) (processors : List Processor) (i : ℕ) (d : Processor)
    → position (has_number cpu) processors ≡ Some i
    → (i < length processors) × ((get_or processors i d).number ≡ cpu)
found_is cpu processors i d h =
    let found = position-Some (has_number cpu) processors i d h in
    (found.0, eqb-true (get_or processors i d).number cpu found.1)

-- a number that isn't found up to the end isn't known
position_or_len-end : (cpu : ℕ) (processors : List Processor)
    → position_or_len (has_number cpu) processors ≡ length processors → regs_in processors cpu ≡ None
position_or_len-end cpu [] h = refl
position_or_len-end cpu (one ∷ rest) h =
    of_test (one.number == cpu) (position_or_len (has_number cpu) rest) (length rest) (regs_in rest cpu)
    (λ g. position_or_len-end cpu rest g) h
  where
    of_test : (same : Bool) (index n : ℕ) (later : Option Regs) → (index ≡ n → later ≡ None)
        → cond (not same) (1 + index) 0 ≡ suc n → cond same (Some one.regs) later ≡ None
    of_test true index n later unknown h = absurd (omega arith)
    of_test false index n later unknown h = unknown (omega arith)

-- a number that isn't found isn't known
pub none_found : (cpu : ℕ) (processors : List Processor) → position (has_number cpu) processors ≡ None
    → regs_in processors cpu ≡ None
none_found cpu processors h =
    position_or_len-end cpu processors
    (at_end (position_or_len (has_number cpu) processors) (length processors)
    (index_within (has_number cpu) processors) h)
  where
    at_end : (index n : ℕ) → index ≤ n → cond (nat_lt index n) (Some index) None ≡ None → index ≡ n
    at_end index n within h = grind (arith, nat_tests)
