-- Counts that rose in one of several calls.
use Rattle.std.proofs.Common.{ℕ, ◌≤◌, arith}
use Rattle.outside.specs.Count.{Rose}

-- a count that rose in one call has risen over that call and those after it
pub Rose-later : (before now after : ℕ) → Rose before now → now ≤ after → Rose before after
Rose-later before now after rose later = omega arith

-- a count that rose in one call has risen over those before it and that call
pub Rose-earlier : (first before now : ℕ) → first ≤ before → Rose before now → Rose first now
Rose-earlier first before now earlier rose = omega arith
