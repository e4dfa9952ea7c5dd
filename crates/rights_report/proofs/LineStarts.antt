-- Where a line begins that has room for 20 bytes more.
use Rattle.std.proofs.Common.{◌≡◌, ℕ, ◌+◌, ◌≤◌, List, length, drop, sym, ap, arith}
use Rattle.std.proofs.lemmas.List.{length-drop}

pub start-least : (start : ℕ) (bytes line : List ℕ) → length bytes ≡ 128 → drop start bytes ≡ line
    → 20 + length line ≤ 128 → 20 ≤ start
start-least start bytes line whole is room = omega (arith, whole, room, ap length is, length-drop start bytes)

pub length-line : (start at : ℕ) (bytes other line : List ℕ) → length bytes ≡ 128 → length other ≡ 128 → drop start bytes ≡ line
    → start ≤ at + 20 → length (drop at other) ≤ 20 + length line
length-line start at bytes other line whole same is near =
    omega (arith, whole, same, near, ap length is, length-drop start bytes, length-drop at other)
