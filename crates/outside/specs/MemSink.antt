-- What a sink in memory stands for.
use Rattle.std.specs.Prelude.{ℕ, ◌==◌, List, find, Option}
use Rattle.std.specs.Option.{option_map}

-- the pieces put, the calls that are to fail with the bytes they keep, the puts so far and how many failed
pub record SinkState : Type 0 where
  pub pieces : List (List ℕ)
  pub failing : List (ℕ × ℕ)
  pub calls : ℕ
  pub faults : ℕ

-- how many bytes a put keeps whose number is listed; the first entry of that number counts
abbrev pub kept_count : List (ℕ × ℕ) → ℕ → Option ℕ
kept_count failing call = option_map (λ entry. entry.1) (find (λ entry. entry.0 == call) failing)
