-- Which stale translation of a processor and a PCID comes first, in the order of findings.
use Rattle.std.specs.Prelude.{◌≡◌, ℕ, ◌==◌, Bool, true, Option, Some, None, nat_lt, if◌then◌else◌}
use Rattle.history_model.specs.History.{History}
use Rattle.history_model.specs.StaleTranslations.{IsNotAfter, IsStale}
use Rattle.history_model.specs.declared.caches.Finding.{Finding}
use Rattle.audit_laws.specs.declared.stale_pages.StalePage.{StalePage}

-- as the finding of a processor under a PCID
abbrev pub finding_at : ℕ → ℕ → StalePage → Finding
finding_at cpu pcid stale =
    record { cpu = cpu; pcid = pcid; page = stale.page; frame = stale.frame; excess = stale.excess }

-- as findings are ordered, whose ever they are
abbrev pub ComesNotAfter : StalePage → StalePage → Type 0
ComesNotAfter one other = IsNotAfter (finding_at 0 0 one) (finding_at 0 0 other)

-- the first of those that have a property; none where nothing has it
abbrev pub IsFirst : (StalePage → Type 0) → Option StalePage → Type 0
IsFirst Has None = (one : StalePage) → Has one → ⊥
IsFirst Has (Some first) = Has first × ((one : StalePage) → Has one → ComesNotAfter first one)

-- those of a processor under a PCID
abbrev pub IsStaleUnder : History → ℕ → ℕ → StalePage → Type 0
IsStaleUnder history cpu pcid stale = IsStale history (finding_at cpu pcid stale)

-- those that pass a test
abbrev pub IsOneOf : (StalePage → Bool) → StalePage → Type 0
IsOneOf are stale = are stale ≡ true

-- one comes after another: by page, then by frame, then by the number of the excess
abbrev pub comes_after : StalePage → StalePage → Bool
comes_after one other =
    if one.page == other.page
    then (if one.frame == other.frame then nat_lt other.excess one.excess else nat_lt other.frame one.frame)
    else nat_lt other.page one.page

-- the first of two, where they are
abbrev pub first_of_two : Option StalePage → Option StalePage → Option StalePage
first_of_two None other = other
first_of_two (Some one) None = Some one
first_of_two (Some one) (Some other) = if comes_after one other then Some other else Some one
