-- Where the address's own 4-KByte page lies within a page.
use Rattle.std.proofs.Common.{◌≡◌, ℕ, zero, suc, ◌+◌, ◌%◌, ◌^◌, ◌≤◌, arith}
use Rattle.paging_model.specs.LinearAddress.{span}
use Rattle.paging_model.specs.Walking.{own_frame}

-- it is a frame of its own, and ends where the page does at the latest
pub own_frame-within : (level frame x : ℕ) → 1 ≤ level → level ≤ 3 → frame % span level ≡ 0 → frame + span level ≤ 2 ^ 52
    → (own_frame level x frame % 4096 ≡ 0) × (own_frame level x frame + 4096 ≤ 2 ^ 52)
own_frame-within zero frame x least most aligned ends = absurd (omega arith)
own_frame-within (suc zero) frame x least most aligned ends = (omega arith, omega arith)
own_frame-within (suc (suc zero)) frame x least most aligned ends = (omega arith, omega arith)
own_frame-within (suc (suc (suc zero))) frame x least most aligned ends = (omega arith, omega arith)
own_frame-within (suc (suc (suc (suc level)))) frame x least most aligned ends = absurd (omega arith)
