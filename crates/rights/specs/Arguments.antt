-- The forms of the arguments that the program is called with.
use Rattle.std.specs.Prelude.{◌≡◌, ◌⊎◌, ℕ, ◌^◌, List, [], ◌∷◌, map, Option, Some, None, option_and_then, codes, if◌then◌else◌}
use Rattle.std.specs.Str.{bytes_eq}
use denote.Ref.{Bor}
use Rattle.edit_log.specs.LogLine.{number_under}
use Rattle.edit_log.specs.Numbers.{between, number_of}
use Rattle.rights.specs.declared.arguments.Form.{Form as FormOfTexts}
use Rattle.rights.specs.declared.arguments.Form.TheVariants.{Run, Check, Gen}

-- the forms of the arguments: `run CORE LOG`, `check CORE` and `gen SEED COUNT`
pub data Form : Type 0 where
  run : List ℕ → List ℕ → Form
  check : List ℕ → Form
  gen : ℕ → ℕ → Form

-- the seed of a generated log, below 2 to the 31
abbrev pub seed_of : List ℕ → Option ℕ
seed_of word = number_under (2 ^ 31) word

-- how many lines a generated log has, from 1 to 100,000
abbrev pub count_of : List ℕ → Option ℕ
count_of word = option_and_then (λ n. if between 1 100000 n then Some n else None) (number_of word)

abbrev pub gen_form : Option ℕ → Option ℕ → Option Form
gen_form (Some seed) (Some count) = Some (gen seed count)
gen_form _ _ = None

abbrev pub form_of : List (List ℕ) → Option Form
form_of (word ∷ one ∷ other ∷ []) =
    if bytes_eq word (codes "run") then Some (run one other) else
    (if bytes_eq word (codes "gen") then gen_form (seed_of one) (count_of other) else None)
form_of (word ∷ core ∷ []) = if bytes_eq word (codes "check") then Some (check core) else None
form_of _ = None

abbrev pub texts : List (Bor (List ℕ)) → List (List ℕ)
texts arguments = map (λ argument. argument.now) arguments

-- the arguments are `run CORE LOG`, with these names
abbrev pub IsRun : List (Bor (List ℕ)) → List ℕ → List ℕ → Type 0
IsRun arguments core log = form_of (texts arguments) ≡ Some (run core log)

-- the arguments are `check CORE`, with this name
abbrev pub IsCheck : List (Bor (List ℕ)) → List ℕ → Type 0
IsCheck arguments core = form_of (texts arguments) ≡ Some (check core)

-- the arguments are `gen SEED COUNT`, with these numbers
abbrev pub IsGen : List (Bor (List ℕ)) → ℕ → ℕ → Type 0
IsGen arguments seed count = form_of (texts arguments) ≡ Some (gen seed count)

-- the arguments have none of the forms
abbrev pub HasNoForm : List (Bor (List ℕ)) → Type 0
HasNoForm arguments = form_of (texts arguments) ≡ None

-- a form apart from where its names lie
abbrev pub form_value : FormOfTexts → Form
form_value (Run core log) = run core.now log.now
form_value (Check core) = check core.now
form_value (Gen seed count) = gen seed count

-- the names that a form gives
abbrev pub IsNamed : Option Form → List ℕ → Type 0
IsNamed None n = ⊥
IsNamed (Some (run core log)) n = (n ≡ core) ⊎ (n ≡ log)
IsNamed (Some (check core)) n = n ≡ core
IsNamed (Some (gen seed count)) n = ⊥
