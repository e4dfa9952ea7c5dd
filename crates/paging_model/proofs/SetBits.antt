-- Sets of accesses as numbers: what the operations on bits do to membership.
use Rattle.std.proofs.Common.{ap, zero, suc, ℕ, ◌≡◌, ◌<◌, ◌-◌, ◌*◌, ◌/◌, ◌%◌, ◌^◌, ◌&&◌, ◌||◌, min, max, bit_and, bit_or, w8, lit<, refl, arith, sym, ◌∙◌}
use Rattle.std.specs.Prelude.{not, ◌==◌, if◌then◌else◌}
use Rattle.std.proofs.lemmas.Nat.Bits.{bit_at_and, bit_at_or, bit_at_not, bit_at-lt}
use Rattle.std.proofs.lemmas.Bool.Decides.{nat_tests}
use Rattle.paging_model.specs.BitRanges.{bit}
use Rattle.paging_model.specs.declared.access.Access.{Access}
use Rattle.paging_model.specs.declared.access.Access.TheVariants.{Ur, Uw, Ux, Sr, Sw, Sx, Ir, Iw}
use Rattle.paging_model.specs.AccessSets.{access_bit, has, set_number}

one_of_min : (x y : ℕ) → x < 2 → y < 2 → (min x y == 1) ≡ (x == 1 && y == 1)
one_of_min x y h k = grind (arith, nat_tests)

pub bit-bit_and : (m n i : ℕ) → bit (bit_and m n) i ≡ (bit m i && bit n i)
bit-bit_and m n i = rw (bit_at_and m n i) (one_of_min _ _ (bit_at-lt m i) (bit_at-lt n i))

one_of_max : (x y : ℕ) → x < 2 → y < 2 → (max x y == 1) ≡ (x == 1 || y == 1)
one_of_max x y h k = grind (arith, nat_tests)

pub bit-bit_or : (m n i : ℕ) → bit (bit_or m n) i ≡ (bit m i || bit n i)
bit-bit_or m n i = rw (bit_at_or m n i) (one_of_max _ _ (bit_at-lt m i) (bit_at-lt n i))

one_of_other : (x : ℕ) → x < 2 → (1 - x == 1) ≡ not (x == 1)
one_of_other x h = grind (arith, nat_tests)

pub bit-bit_not : (n i : ℕ) → n < 256 → i < 8 → bit (255 - n) i ≡ not (bit n i)
bit-bit_not n i h k = rw (bit_at_not w8 n i h k) (one_of_other _ (bit_at-lt n i))

pub access_bit-lt : (access : Access) → access_bit access < 8
access_bit-lt Ur = lit< tt
access_bit-lt Uw = lit< tt
access_bit-lt Ux = lit< tt
access_bit-lt Sr = lit< tt
access_bit-lt Sw = lit< tt
access_bit-lt Sx = lit< tt
access_bit-lt Ir = lit< tt
access_bit-lt Iw = lit< tt

worth_of_bit : (b p : ℕ) → b < 2 → (if b == 1 then p else 0) ≡ b * p
worth_of_bit zero p h = omega arith
worth_of_bit (suc zero) p h = omega arith
worth_of_bit (suc (suc b)) p h = absurd (omega arith)

pub set_number-has : (n : ℕ) → n < 256 → set_number (has n) ≡ n
set_number-has n h =
    let e : (i p : ℕ) → (if bit n i then p else 0) ≡ n / 2 ^ i % 2 * p = λ i p. worth_of_bit _ p (bit_at-lt n i) in
    rw (e 0 1, e 1 2, e 2 4, e 3 8, e 4 16, e 5 32, e 6 64, e 7 128) (omega arith)

-- sets with the same members have the same number
pub same_number : (m n : ℕ) → m < 256 → n < 256 → ((access : Access) → has m access ≡ has n access) → m ≡ n
same_number m n h k same =
    sym (set_number-has m h)
    ∙ rw (same Ur, same Uw, same Ux, same Sr, same Sw, same Sx, same Ir, same Iw) (set_number-has n k)

-- the access of a bit below 8
abbrev access_at : ℕ → Access
access_at zero = Ur
access_at (suc zero) = Uw
access_at (suc (suc zero)) = Ux
access_at (suc (suc (suc zero))) = Sr
access_at (suc (suc (suc (suc zero)))) = Sw
access_at (suc (suc (suc (suc (suc zero))))) = Sx
access_at (suc (suc (suc (suc (suc (suc zero)))))) = Ir
access_at (suc (suc (suc (suc (suc (suc (suc n))))))) = Iw

access_at-access_bit : (access : Access) → access_at (access_bit access) ≡ access
access_at-access_bit Ur = refl
access_at-access_bit Uw = refl
access_at-access_bit Ux = refl
access_at-access_bit Sr = refl
access_at-access_bit Sw = refl
access_at-access_bit Sx = refl
access_at-access_bit Ir = refl
access_at-access_bit Iw = refl

-- an access is known by its bit
pub same_access_bit : (a b : Access) → access_bit a ≡ access_bit b → a ≡ b
same_access_bit a b e = sym (access_at-access_bit a) ∙ ap access_at e ∙ access_at-access_bit b
