-- The bytes of the generated core's memory are known, and stay known.
use Rattle.std.proofs.Common.{◌≡◌, ℕ, ◌+◌, ◌-◌, ◌<◌, List, [], ◌∷◌, length, Bool, true, false, Option, Some, is_some, if◌then◌else◌, refl, ap, arith}
use Rattle.std.proofs.lemmas.Bool.Decides.{nat_tests}
use Rattle.std.specs.Prelude.{◌&&◌, nat_le, nat_lt, slice_index}
use Rattle.paging_model.specs.Memory.{Memory, byte_in}
use Rattle.history_model.specs.History.{with_bytes}
use Rattle.image_gen.specs.Accepted.{generated_start}
use Rattle.image_gen.specs.GeneratedCore.{memory_bytes}
use Rattle.image_gen.proofs.CoreAccepted.{memory-length}

-- a byte of one stretch from 0 on is known
stretch-known : (bytes : List ℕ) (n a : ℕ) → length bytes ≡ n → a < n → is_some (byte_in (record { start = 0; bytes = bytes } ∷ []) a) ≡ true
stretch-known bytes n a size within =
    let inside : (nat_le 0 a && nat_lt a (0 + length bytes)) ≡ true = grind (arith, nat_tests, size, within) in
    ap (λ (b : Bool). is_some (if b then Some (slice_index bytes (a - 0)) else byte_in [] a)) inside

pub start-known : (a : ℕ) → a < 1048576 → is_some (byte_in generated_start.extents a) ≡ true
start-known a within = stretch-known memory_bytes 1048576 a memory-length within

unless-written : (written : Bool) (byte : ℕ) (before : Option ℕ) → is_some before ≡ true → is_some (if written then Some byte else before) ≡ true
unless-written true byte before known = refl
unless-written false byte before known = known

-- a write leaves known what is known
pub written-known : (at : ℕ) (bytes : List ℕ) (before : Memory) (a : ℕ) → is_some (before a) ≡ true → is_some (with_bytes at bytes before a) ≡ true
written-known at bytes before a known =
    unless-written (is_some (before a) && nat_le at a && nat_lt a (at + length bytes)) (slice_index bytes (a - at)) (before a) known
