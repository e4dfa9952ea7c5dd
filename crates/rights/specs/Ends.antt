-- How much of a job a sink was given, by how a run ends.
use Rattle.std.specs.Prelude.{◌≡◌, ℕ, List, [], ◌∷◌, ◌++◌, Option, None, Some}
use Rattle.outside.specs.Sink.{PutsBytePrefix}
use Rattle.rights.specs.Jobs.{Job, IsOutcomeOf, HasReached}
use Rattle.rights.specs.Outcome.{Outcome}
use Rattle.rights.specs.declared.statuses.Status.{Status}
use Rattle.rights.specs.declared.statuses.Status.TheVariants.{ReadFailed, WriteFailed, OutOfMemory}

-- the pieces of a sink once these lines are put, each as one piece; where a sink's pieces aren't known, they never are
abbrev pub after_lines : Option (List (List ℕ)) → List (List ℕ) → Option (List (List ℕ))
after_lines None lines = None
after_lines (Some before) lines = Some (before ++ lines)

-- these lines were put
abbrev pub Adds : Option (List (List ℕ)) → Option (List (List ℕ)) → List (List ℕ) → Type 0
Adds before now lines = now ≡ after_lines before lines

-- a prefix of these lines was put
pub record AddsPrefix (before now : Option (List (List ℕ))) (lines : List (List ℕ)) : Type 0 where
  pub whole : List (List ℕ)
  pub more : List (List ℕ)
  pub lines_are : lines ≡ whole ++ more
  pub adds : Adds before now whole

-- the lines before one were put, and of that one a prefix of its bytes at most
pub record Truncates (before now lines : List (List ℕ)) : Type 0 where
  pub whole : List (List ℕ)
  pub line : List ℕ
  pub more : List (List ℕ)
  pub lines_are : lines ≡ whole ++ line ∷ more
  pub puts : PutsBytePrefix (before ++ whole) now line

abbrev pub AddsTruncated : Option (List (List ℕ)) → Option (List (List ℕ)) → List (List ℕ) → Type 0
AddsTruncated None now lines = now ≡ None
AddsTruncated (Some before) now lines = (pieces : List (List ℕ)) × (now ≡ Some pieces) × Truncates before pieces lines

-- the outcome of a job that ends so was written
pub record AddsOutcome (job : Job) (before now : Option (List (List ℕ))) (status : Status) : Type 0 where
  pub outcome : Outcome
  pub is : IsOutcomeOf job outcome
  pub status_is : outcome.status ≡ status
  pub adds : Adds before now outcome.lines

-- the lines of what was handled were written, and of those that come next a part
pub record StopsWithin (job : Job) (AddsNext : Option (List (List ℕ)) → List (List ℕ) → Type 0) (before : Option (List (List ℕ))) : Type 0 where
  pub lines : List (List ℕ)
  pub next : List (List ℕ)
  pub reaches : HasReached job lines next
  pub adds : AddsNext (after_lines before lines) next

-- An end that is no fault is that of the outcome, which was written. Where a read failed, the lines of what was handled
-- were put, and nothing of what comes next. Where a put failed, of the next step's lines a proper prefix was put too, with
-- at most one truncated line; where memory ran out, a prefix.
abbrev pub Ends : Job → Option (List (List ℕ)) → Option (List (List ℕ)) → Status → Type 0
Ends job before now ReadFailed = StopsWithin job (λ handled next. (next ≡ []) × (now ≡ handled)) before
Ends job before now WriteFailed = StopsWithin job (λ handled next. AddsTruncated handled now next) before
Ends job before now OutOfMemory = StopsWithin job (λ handled next. AddsPrefix handled now next) before
Ends job before now status = AddsOutcome job before now status
