-- A space is the two halves of the canonical addresses, and each is served by half of the top table.
use Rattle.std.proofs.Common.{◌≡◌, ℕ, ◌+◌, ◌-◌, ◌*◌, ◌/◌, ◌%◌, ◌^◌, ◌<◌, ◌≤◌, ◌⊎◌, inl, inr, Bool, true, false, refl, arith}
use Rattle.std.specs.Prelude.{IsTrue, ◌==◌, ◌||◌, if◌then◌else◌}
use Rattle.std.proofs.lemmas.Bool.Decides.{nat_tests}
use Rattle.std.proofs.lemmas.Bool.{cases_lt}
use Rattle.paging_model.specs.Memory.{Memory}
use Rattle.paging_model.specs.LinearAddress.{span, is_canonical}
use Rattle.paging_model.specs.Entries.{root_bits}
use Rattle.paging_model.specs.TableUses.{at_root}
use Rattle.paging_model.specs.Walking.{top_level}
use Rattle.paging_model.specs.declared.registers.Settings.{Settings}
use Rattle.paging_laws.specs.SpaceParts.{slot_prefix, upper_prefix}
use Rattle.paging_laws.specs.ReachedSlots.{AreReached, LiesInHalf}

is_first : (n all : ℕ) → n ≡ 0 → IsTrue (n == 0 || n == all)
is_first n all zero_is = grind (arith, nat_tests)

is_last : (n all : ℕ) → n ≡ all → IsTrue (n == 0 || n == all)
is_last n all all_is = grind (arith, nat_tests)

first_or_last : (n all : ℕ) → IsTrue (n == 0 || n == all) → ((n ≡ 0) ⊎ (n ≡ all))
first_or_last n all is = elim (cases_lt 0 n) [
  | inl some ↦ inr (grind (arith, nat_tests))
  | inr none ↦ inl (omega arith)
]

-- the first addresses are canonical
pub canonical-low : (five_levels : Bool) (y : ℕ) → y < 256 * span (if five_levels then 5 else 4) → IsTrue (is_canonical five_levels y)
canonical-low true y before = is_first (y / 2 ^ 56 % 2 ^ 8) (2 ^ 8 - 1) (omega arith)
canonical-low false y before = is_first (y / 2 ^ 47 % 2 ^ 17) (2 ^ 17 - 1) (omega arith)

-- so are the last
pub canonical-high : (five_levels : Bool) (y : ℕ) → 2 ^ 64 - 256 * span (if five_levels then 5 else 4) ≤ y → y < 2 ^ 64
    → IsTrue (is_canonical five_levels y)
canonical-high true y from before = is_last (y / 2 ^ 56 % 2 ^ 8) (2 ^ 8 - 1) (omega arith)
canonical-high false y from before = is_last (y / 2 ^ 47 % 2 ^ 17) (2 ^ 17 - 1) (omega arith)

-- and no others
canonical-half : (five_levels : Bool) (y : ℕ) → IsTrue (is_canonical five_levels y) → y < 2 ^ 64
    → ((y < 256 * span (if five_levels then 5 else 4)) ⊎ (2 ^ 64 - 256 * span (if five_levels then 5 else 4) ≤ y))
canonical-half true y canonical before = elim (first_or_last (y / 2 ^ 56 % 2 ^ 8) (2 ^ 8 - 1) canonical) [
  | inl none ↦ inl (omega arith)
  | inr all ↦ inr (omega arith)
]
canonical-half false y canonical before = elim (first_or_last (y / 2 ^ 47 % 2 ^ 17) (2 ^ 17 - 1) canonical) [
  | inl none ↦ inl (omega arith)
  | inr all ↦ inr (omega arith)
]

-- what the top table would serve, if all its 512 entries followed one another, has room below 2 to the 64
record TopLevel (level : ℕ) : Type 0 where
  some : 1 ≤ level
  room : 512 * span level ≤ 2 ^ 64
  whole : (2 ^ 64 - 512 * span level) % (512 * span level) ≡ 0

top-level : (five_levels : Bool) → TopLevel (if five_levels then 5 else 4)
top-level true = record { some = omega arith; room = omega arith; whole = refl }
top-level false = record { some = omega arith; room = omega arith; whole = refl }

module _ (memory : Memory) (settings : Settings) (root : ℕ) where
  pub lower-half : AreReached memory settings root (top_level settings) root 0 root_bits 0 256
  lower-half =
      let top = top-level settings.la57 in
      record {
        whole = omega arith;
        slots = omega arith;
        ends = omega (arith, top.room);
        canonical = λ y low high. canonical-low settings.la57 y (omega arith);
        reached = λ y low high. at_root;
      }

  pub upper-half : AreReached memory settings root (top_level settings) root (upper_prefix settings) root_bits 256 256
  upper-half =
      let top = top-level settings.la57 in
      record {
        whole = top.whole;
        slots = omega arith;
        ends = omega (arith, top.room);
        canonical = λ y low high. canonical-high settings.la57 y (omega (arith, top.room)) (omega (arith, top.room));
        reached = λ y low high. at_root;
      }

module _ (settings : Settings) where
  -- a canonical address lies in one of the halves
  pub in_half : (y : ℕ) → y < 2 ^ 64 → IsTrue (is_canonical settings.la57 y)
      → (LiesInHalf settings 0 0 y ⊎ LiesInHalf settings (upper_prefix settings) 256 y)
  in_half y before canonical =
      let top = top-level settings.la57 in
      elim (canonical-half settings.la57 y canonical before) [
        | inl low ↦ inl (omega arith, omega arith)
        | inr high ↦ inr (omega (arith, top.room), omega (arith, top.room))
      ]

  -- and in one alone
  pub halves-apart : (y : ℕ) → y < slot_prefix (top_level settings) 0 (0 + 256)
      → slot_prefix (top_level settings) (upper_prefix settings) 256 ≤ y → ⊥
  halves-apart y low high = let top = top-level settings.la57 in omega (arith, top.room)
