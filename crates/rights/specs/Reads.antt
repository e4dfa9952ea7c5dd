-- What a run does to a shelf, and what its faults are caused by.
use Rattle.std.specs.Prelude.{◌≡◌, ◌⊎◌, ℕ, ◌≤◌, List}
use denote.Ref.{Bor}
use Rattle.outside.specs.Count.{Rose}
use Rattle.outside.specs.Shelf.{Known}
use Rattle.rights.specs.Arguments.{IsCheck, IsRun}
use Rattle.rights.specs.Run.{IsAccepted, MayBe}
use Rattle.rights.specs.declared.statuses.Status.{Status}
use Rattle.rights.specs.declared.statuses.Status.TheVariants.{ReadFailed, WriteFailed}

-- Only the names that are meant were read: what is known of each name stays, and up to where the other ones were read.
-- No count of faults falls. Of a shelf these are what is known of a name, up to where it was read, and how often that
-- failed, each before and after.
pub record ReadsOnly (IsMeant : List ℕ → Type 0) (known_old known_new : List ℕ → Known) (reach_old reach_new : List ℕ → ℕ)
    (faults_old faults_new : List ℕ → ℕ) : Type 0 where
  pub known : (n : List ℕ) → known_new n ≡ known_old n
  pub reach : (n : List ℕ) → (IsMeant n → ⊥) → reach_new n ≡ reach_old n
  pub faults : (n : List ℕ) → faults_old n ≤ faults_new n

-- reads of a name failed, by the counts of faults before and after
abbrev pub FailedAt : (List ℕ → ℕ) → (List ℕ → ℕ) → List ℕ → Type 0
FailedAt old new name = Rose (old name) (new name)

-- reads of the core failed, or the core is accepted, as far as its bytes are known, and reads of the log failed
abbrev pub FailedToRead : (List ℕ → Known) → (List ℕ → ℕ) → (List ℕ → ℕ) → List ℕ → List ℕ → Type 0
FailedToRead known old new core log =
    FailedAt old new core ⊎ (FailedAt old new log × ((bytes : List ℕ) × MayBe (known core) bytes × IsAccepted bytes))

-- reads failed of a file that the arguments name: of the core, or of the log of an accepted core
abbrev pub FailedToReadFor : List (Bor (List ℕ)) → (List ℕ → Known) → (List ℕ → ℕ) → (List ℕ → ℕ) → Type 0
FailedToReadFor arguments known old new =
    ((core : List ℕ) × (log : List ℕ) × IsRun arguments core log × FailedToRead known old new core log)
    ⊎ ((core : List ℕ) × IsCheck arguments core × FailedAt old new core)

-- a run whose reading failed has this cause, and one whose writing failed that
pub record FailsOnlyBy (Reading Writing : Type 0) (status : Status) : Type 0 where
  pub read_failed : status ≡ ReadFailed → Reading
  pub write_failed : status ≡ WriteFailed → Writing
