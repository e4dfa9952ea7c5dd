-- Which addresses the same accesses reach.
-- SDM 3A, "Linear-Address Masking" and "Linear-Address Space Separation".
use Rattle.std.specs.Prelude.{◌≡◌, ℕ, ◌^◌, ◌<◌, ◌==◌, Bool, false, nat_lt, IsTrue, Option, Some, None}
use Rattle.paging_model.specs.LinearAddress.{is_canonical}
use Rattle.paging_model.specs.Pointers.{is_upper}

-- whether there is an address, and it is the one given
abbrev pub is_same : Option ℕ → ℕ → Bool
is_same (Some found) address = found == address
is_same None address = false

-- two canonical addresses of one half that both lie below 2 ^ 47 or both don't
pub record AreOfOneZone (five_levels : Bool) (one other : ℕ) : Type 0 where
  pub below : one < 2 ^ 64
  pub other_below : other < 2 ^ 64
  pub canonical : IsTrue (is_canonical five_levels one)
  pub other_canonical : IsTrue (is_canonical five_levels other)
  pub half : is_upper one ≡ is_upper other
  pub low : nat_lt one (2 ^ 47) ≡ nat_lt other (2 ^ 47)
