-- The number of a protection, and what it is the number of.
use Rattle.std.proofs.Common.{◌≡◌, ℕ, ◌+◌, ◌*◌, ◌/◌, ◌<◌, Bool, true, false, arith}
use Rattle.std.specs.Prelude.{◌==◌, if◌then◌else◌}
use Rattle.std.proofs.lemmas.Bool.Decides.{nat_tests}
use Rattle.paging_model.specs.BitRanges.{bit}
use Rattle.paging_model.specs.declared.entries.Bits.{Bits}
use Rattle.area_list.specs.Protections.{bits_of_number, protection_number}

same_test : (n x : ℕ) → n ≡ x → (n == x) ≡ true
same_test n x is = grind (arith, nat_tests)

other_test : (n x : ℕ) → (n ≡ x → ⊥) → (n == x) ≡ false
other_test n x isnt = grind (arith, nat_tests)

number : Bool → Bool → Bool → ℕ → ℕ
number xd user write key = 8 * key + (if xd then 4 else 0) + (if user then 2 else 0) + (if write then 1 else 0)

bit-write : (xd user write : Bool) (key : ℕ) → bit (number xd user write key) 0 ≡ write
unfolding number
bit-write true true true key = same_test _ 1 (omega arith)
bit-write true true false key = other_test _ 1 (λ e. omega arith)
bit-write true false true key = same_test _ 1 (omega arith)
bit-write true false false key = other_test _ 1 (λ e. omega arith)
bit-write false true true key = same_test _ 1 (omega arith)
bit-write false true false key = other_test _ 1 (λ e. omega arith)
bit-write false false true key = same_test _ 1 (omega arith)
bit-write false false false key = other_test _ 1 (λ e. omega arith)

bit-user : (xd user write : Bool) (key : ℕ) → bit (number xd user write key) 1 ≡ user
unfolding number
bit-user true true true key = same_test _ 1 (omega arith)
bit-user true true false key = same_test _ 1 (omega arith)
bit-user true false true key = other_test _ 1 (λ e. omega arith)
bit-user true false false key = other_test _ 1 (λ e. omega arith)
bit-user false true true key = same_test _ 1 (omega arith)
bit-user false true false key = same_test _ 1 (omega arith)
bit-user false false true key = other_test _ 1 (λ e. omega arith)
bit-user false false false key = other_test _ 1 (λ e. omega arith)

bit-xd : (xd user write : Bool) (key : ℕ) → bit (number xd user write key) 2 ≡ xd
unfolding number
bit-xd true true true key = same_test _ 1 (omega arith)
bit-xd true true false key = same_test _ 1 (omega arith)
bit-xd true false true key = same_test _ 1 (omega arith)
bit-xd true false false key = same_test _ 1 (omega arith)
bit-xd false true true key = other_test _ 1 (λ e. omega arith)
bit-xd false true false key = other_test _ 1 (λ e. omega arith)
bit-xd false false true key = other_test _ 1 (λ e. omega arith)
bit-xd false false false key = other_test _ 1 (λ e. omega arith)

low : (xd user write : Bool) → ((if xd then 4 else 0) + (if user then 2 else 0) + (if write then 1 else 0)) < 8
low true true true = omega arith
low true true false = omega arith
low true false true = omega arith
low true false false = omega arith
low false true true = omega arith
low false true false = omega arith
low false false true = omega arith
low false false false = omega arith

bits_made : Bool → Bool → Bool → Bits
bits_made write user xd = record { write = write; user = user; xd = xd }

same_bits : (w w' u u' x x' : Bool) → w ≡ w' → u ≡ u' → x ≡ x' → bits_made w u x ≡ bits_made w' u' x'
same_bits w w' u u' x x' writes users xds = cc

pub bits-of_number : (bits : Bits) (key : ℕ) → bits_of_number (protection_number bits key) ≡ bits
unfolding number bits_made
bits-of_number bits key =
    same_bits _ bits.write _ bits.user _ bits.xd (bit-write bits.xd bits.user bits.write key) (bit-user bits.xd bits.user bits.write key) (bit-xd bits.xd bits.user bits.write key)

pub key-of_number : (bits : Bits) (key : ℕ) → protection_number bits key / 8 ≡ key
key-of_number bits key = omega (arith, low bits.xd bits.user bits.write)

pub number-below : (bits : Bits) (key : ℕ) → key < 16 → protection_number bits key < 128
number-below bits key few = omega (arith, low bits.xd bits.user bits.write)
