-- What each generated line is like, and what stays of the beginning that the generated core states.
use Rattle.std.proofs.Common.{◌≡◌, ℕ, zero, suc, ◌+◌, ◌%◌, ◌==◌, ◌<◌, ◌≤◌, List, [], ◌∷◌, length, Bool, true, false, Some, if◌then◌else◌, refl, arith}
use Rattle.std.specs.Prelude.{⊤, nat_le, nat_lt}
use Rattle.std.proofs.lemmas.Bool.{lt-leb}
use Rattle.std.proofs.lemmas.Bool.Decides.{nat_tests}
use Rattle.paging_model.specs.declared.registers.Processor.{Processor}
use Rattle.paging_model.specs.declared.registers.RegChange.TheVariants.{Cr3}
use Rattle.history_model.specs.History.{regs_in, set_in, with_number}
use Rattle.history_model.specs.Refusals.{page_limit}
use Rattle.image_gen.specs.Accepted.{generated_start}
use Rattle.image_gen.specs.StatedCore.{stated_processor, stated_regs}
use Rattle.image_gen.specs.GeneratedLog.{Drawn, ask_after, drawn, invlpg_after, line_after, line_of_form, next_state, numbered_line, set_after, write_after}
use Rattle.image_gen.specs.GeneratedTables.{root, slot}
use Rattle.image_gen.specs.declared.lines.Line.{Line}
use Rattle.image_gen.specs.declared.lines.Line.TheVariants.{Point, LoseAll, List as ListOf, Write, Invlpg, Ask, SetRoot}

-- a line names processor 0 or 1, and writes a slot below 0x20000, where the 16 tables end
abbrev pub IsPlain : Line → Type 0
IsPlain Point = ⊤
IsPlain (LoseAll cpu) = cpu < 2
IsPlain ListOf = ⊤
IsPlain (Write slot entry) = (slot % 8 ≡ 0) × (slot + 8 ≤ 131072)
IsPlain (Invlpg cpu address) = cpu < 2
IsPlain (Ask cpu access pointer) = cpu < 2
IsPlain (SetRoot cpu) = cpu < 2

either-plain : (test : Bool) (one other : Drawn) → IsPlain one.0 → IsPlain other.0 → IsPlain (if test then one else other).0
either-plain true one other first second = first
either-plain false one other first second = second

cpu-drawn : (state : ℕ) → drawn 2 state < 2
cpu-drawn state = omega arith

slot-drawn : (i j : ℕ) → (slot (drawn 16 i) (drawn 512 j) % 8 ≡ 0) × (slot (drawn 16 i) (drawn 512 j) + 8 ≤ 131072)
slot-drawn i j = (omega arith, omega arith)

ask-plain : (state : ℕ) → IsPlain (ask_after state).0
ask-plain state = cpu-drawn (next_state state)

form-plain : (form state : ℕ) → IsPlain (line_of_form form state).0
form-plain form state =
    either-plain (nat_lt form 4) (write_after state) _ (slot-drawn (next_state state) (next_state (next_state state)))
    (either-plain (form == 4) (invlpg_after state) _ (cpu-drawn (next_state state))
    (either-plain (form == 6) (set_after state) (ask_after state) (cpu-drawn (next_state state)) (ask-plain state)))

pub line-plain : (number state : ℕ) → IsPlain (numbered_line number state).0
line-plain number state =
    either-plain (number % 1000 == 0) (Point, state) _ tt
    (either-plain (number % 1000 == 1) (LoseAll 0, state) _ (omega arith)
    (either-plain (number % 1000 == 2) (LoseAll 1, state) _ (omega arith)
    (either-plain (number % 1000 == 500) (ListOf, state) (line_after state) tt (form-plain (drawn 8 (next_state state)) (next_state state)))))

-- both processors have the registers
pub regs-known : (cpu : ℕ) → cpu < 2 → regs_in generated_start.processors cpu ≡ Some stated_regs
regs-known zero within = refl
regs-known (suc zero) within = refl
regs-known (suc (suc cpu)) within = absurd (omega arith)

same-either : (test : Bool) (one : Processor) → (if test then one else one) ≡ one
same-either true one = refl
same-either false one = refl

-- a processor that writes its root to CR3 has the registers that it had
pub root-again : (cpu : ℕ) → set_in cpu (Cr3 root) generated_start.processors ≡ generated_start.processors
root-again cpu =
    let first = same-either (0 == cpu) (stated_processor 0) in
    let second = same-either (1 == cpu) (stated_processor 1) in
    rw (first, second) refl

-- ascending numbers below 131,072, of which the first isn't below a least one
abbrev pub AreAscending : ℕ → List ℕ → Type 0
AreAscending from [] = ⊤
AreAscending from (one ∷ rest) = (from ≤ one) × (one < 131072) × AreAscending (one + 1) rest

ascending-count : (from : ℕ) (numbers : List ℕ) → from ≤ 131072 → AreAscending from numbers → length numbers + from ≤ 131072
ascending-count from [] within ascending = omega (arith, within)
ascending-count from (one ∷ rest) within ascending =
    let more = ascending-count (one + 1) rest (let below = ascending.1 in omega (arith, below)) ascending.2 in
    let first = ascending.0 in omega (arith, more, first)

-- a number before, at or after the first of them
inserted : (n one from : ℕ) (rest inner : List ℕ) (same lower : Bool) → ((n == one) ≡ same) → (nat_lt n one ≡ lower) → from ≤ n → n < 131072
    → AreAscending from (one ∷ rest) → (one < n → AreAscending (one + 1) inner)
    → AreAscending from (if same then one ∷ rest else (if lower then n ∷ one ∷ rest else one ∷ inner))
inserted n one from rest inner true lower is_same is_lower least most ascending later = ascending
inserted n one from rest inner false true is_same is_lower least most ascending later =
    (least, most, (grind (arith, nat_tests, is_lower), ascending.1, ascending.2))
inserted n one from rest inner false false is_same is_lower least most ascending later =
    (ascending.0, ascending.1, later (grind (arith, nat_tests, is_same, is_lower)))

-- one more number leaves them ascending
pub ascending-with : (n from : ℕ) (numbers : List ℕ) → from ≤ n → n < 131072 → AreAscending from numbers → AreAscending from (with_number n numbers)
ascending-with n from [] least most ascending = (least, most, tt)
ascending-with n from (one ∷ rest) least most ascending =
    inserted n one from rest (with_number n rest) (n == one) (nat_lt n one) refl refl least most ascending
    (λ above. ascending-with n (one + 1) rest (omega (arith, above)) most ascending.2)

-- so few can't be too many
pub ascending-few : (numbers : List ℕ) → AreAscending 0 numbers → nat_le page_limit (length numbers) ≡ false
ascending-few numbers ascending =
    let count = ascending-count 0 numbers (omega arith) ascending in lt-leb page_limit (length numbers) (omega (arith, count))
