-- The table is held against the definition at each of the 256 bytes, by computing.
use Rattle.std.proofs.Common.{◌≡◌, ℕ, zero, suc, ◌<◌, ◌≤◌, Bool, true, false, ◌&&◌, nat_eq, unwrap_or, get_or, List, refl, arith, inl, inr}
use Rattle.std.proofs.lemmas.Bool.{cases_eq, eqb-true}
use Rattle.std.proofs.lemmas.Bool.Decides.{nat_tests}
use Rattle.edit_log.specs.Numbers.{hex_digit}
use Rattle.edit_log.specs.declared.numbers.TheConstants.{HEX_DIGITS}
use Rattle.edit_log.proofs.numbers.entry.Goals as goal

-- two functions agree below n
agree_below : (ℕ → ℕ) → (ℕ → ℕ) → ℕ → Bool
agree_below f g zero = true
agree_below f g (suc n) = nat_eq (f n) (g n) && agree_below f g n

both_of : (first rest : Bool) → (first && rest) ≡ true → (first ≡ true) × (rest ≡ true)
both_of true rest h = (refl, h)
both_of false rest h = absurd cc

agree_at : (f g : ℕ → ℕ) (n : ℕ) → agree_below f g n ≡ true → (b : ℕ) → b < n → f b ≡ g b
unfolding agree_below
agree_at f g zero h b lt = absurd (omega arith)
agree_at f g (suc n) h b lt =
    let both = both_of (nat_eq (f n) (g n)) (agree_below f g n) h in
    elim (cases_eq b n) [ inl same ↦ rw same (eqb-true (f n) (g n) both.0) | inr other ↦ agree_at f g n both.1 b (omega arith) ]

from_table : (table : List ℕ) (b : ℕ) → b < 256
    → agree_below (λ k. get_or table k 0) (λ k. unwrap_or (hex_digit k) 65536) 256 ≡ true
    → get_or table b 0 ≡ unwrap_or (hex_digit b) 65536
from_table table b lt h = agree_at _ _ 256 h b lt

entry_is : (b : ℕ) → b < 256 → get_or HEX_DIGITS b 0 ≡ unwrap_or (hex_digit b) 65536
unfolding agree_below
entry_is b lt = from_table HEX_DIGITS b lt refl

entry_most : (b : ℕ) → unwrap_or (hex_digit b) 65536 ≤ 65536
entry_most b = grind (arith, nat_tests)

pub returns-clause-value : goal.returns-clause-value
returns-clause-value c = entry_is c.args.character (omega arith)

pub returns-clause-most : goal.returns-clause-most
returns-clause-most c =
    let most : get_or HEX_DIGITS c.args.character 0 ≤ 65536 = rw (entry_is c.args.character (omega arith)) (entry_most c.args.character) in most
