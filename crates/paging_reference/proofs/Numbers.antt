-- Numbers of several bytes, by their lowest byte and the rest.
use Rattle.std.proofs.Common.{◌≡◌, ℕ, zero, suc, ◌+◌, ◌-◌, ◌*◌, ◌<◌, ◌≤◌, ◌^◌, refl, arith, ap, ◌∙◌}
use Rattle.std.specs.Prelude.{option_map, option_and_then}
use Rattle.std.proofs.Math.Pow.{pow-add, pow_mono}
use Rattle.paging_model.specs.Memory.{Memory, number_at}

pub number_at-step : (memory : Memory) (size address : ℕ) → 0 < size
    → number_at memory size address
    ≡ option_and_then (λ low. option_map (λ high. low + 256 * high) (number_at memory (size - 1) (address + 1))) (memory address)
number_at-step memory zero address some = absurd (omega arith)
number_at-step memory (suc size) address some =
    let before : suc size - 1 ≡ size = omega arith in
    rw before refl

power_of_bytes : (size : ℕ) → 0 < size → 2 ^ (8 * size) ≡ 256 * 2 ^ (8 * (size - 1))
power_of_bytes size some =
    let sum : 8 * size ≡ 8 + 8 * (size - 1) = omega arith in
    ap (λ n. 2 ^ n) sum ∙ pow-add 2 8 (8 * (size - 1))

-- a byte and a number below it fit in one byte more
pub fits_one_more : (low high size : ℕ) → 0 < size → low < 256 → high < 2 ^ (8 * (size - 1)) → low + 256 * high < 2 ^ (8 * size)
fits_one_more low high size some byte below =
    let power : 2 ^ (8 * size) ≡ 256 * 2 ^ (8 * (size - 1)) = power_of_bytes size some in
    omega (arith, power)

-- up to eight bytes fit in 64 bits
pub at_most_eight : (size : ℕ) → size ≤ 8 → 2 ^ (8 * size) ≤ 2 ^ 64
at_most_eight size most = pow_mono {i = 8 * size} {j = 64} (omega arith)
