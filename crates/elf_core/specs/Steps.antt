-- Steps in order, of which the first that fails decides.
use Rattle.std.specs.Prelude.{List, [], ◌∷◌, Result, Ok, Err}

-- the next step, where this one didn't fail
infixl 10 ◌>>=◌
abbrev pub ◌>>=◌ : {A B E : Type 0} → Result A E → (A → Result B E) → Result B E
(Ok a) >>= next = next a
(Err fault) >>= next = Err fault

-- a step for each item of a list, from the state that the step before it gave
unfoldable pub steps_over : {S A E : Type 0} → (S → A → Result S E) → S → List A → Result S E
steps_over step state [] = Ok state
steps_over step state (item ∷ items) = step state item >>= λ next. steps_over step next items
