-- What is stale at given pages, and what of it comes first.
use Rattle.std.specs.Prelude.{◌≡◌, ℕ, ◌⊎◌, true, Option, Some, None, List, [], ◌∷◌}
use Rattle.paging_model.specs.Counting.{IsIn}
use Rattle.paging_model.specs.Translations.{Target}
use Rattle.paging_model.specs.declared.registers.Regs.{Regs}
use Rattle.history_model.specs.History.{History}
use Rattle.history_model.specs.CachedTranslations.{MayHold, MayUse, frame_at}
use Rattle.history_model.specs.StaleTranslations.{Exceeds, IsNotAfter, IsStale, excess_over, held_target}
use Rattle.history_model.specs.declared.caches.Finding.{Finding}
use Rattle.history_reference.specs.CacheEntries.{HeldEntry}

-- a global translation of a page that is held under a PCID
pub record IsGlobalUnder (history : History) (p under page : ℕ) (entry : HeldEntry) : Type 0 where
  pub leaf : entry.held.leaf ≡ true
  pub global : entry.held.global ≡ true
  pub held_there : MayHold history p under entry.level page entry.held

-- an entry that a processor may use at a page under a PCID
abbrev pub IsUsable : History → ℕ → ℕ → ℕ → HeldEntry → Type 0
IsUsable history p c page entry = MayUse history p c entry.level page entry.held

-- what is found of a translation that may be used, where the present translation is this
pub record IsFoundOf (there : Option (Target ℕ)) (known : Regs) (cpu pcid page : ℕ) (entry : HeldEntry) (finding : Finding) : Type 0 where
  pub exceeds : Exceeds there (held_target known entry.level page entry.held)
  pub is : finding ≡ record {
    cpu = cpu;
    pcid = pcid;
    page = page;
    frame = frame_at entry.level page entry.held;
    excess = excess_over there (held_target known entry.level page entry.held);
  }

-- a stale translation of a processor and a PCID, at one of these pages
pub record IsStaleAmong (history : History) (cpu pcid : ℕ) (pages : List ℕ) (finding : Finding) : Type 0 where
  pub of_cpu : finding.cpu ≡ cpu
  pub of_pcid : finding.pcid ≡ pcid
  pub listed : IsIn finding.page pages
  pub stale : IsStale history finding

module _ (Has : Finding → Type 0) where
  -- the first finding that has a property; none where none has it
  abbrev pub IsFirstFinding : Option Finding → Type 0
  IsFirstFinding None = (one : Finding) → Has one → ⊥
  IsFirstFinding (Some first) = Has first × ((one : Finding) → Has one → IsNotAfter first one)

-- the first finding at these pages of each pair of a processor and a PCID that has one, in the order of the pairs
abbrev pub AreFindingsAmong : History → List ℕ → List (ℕ × ℕ) → List Finding → Type 0
AreFindingsAmong history pages [] findings = findings ≡ []
AreFindingsAmong history pages (at ∷ rest) findings =
    (IsFirstFinding (IsStaleAmong history at.0 at.1 pages) None × AreFindingsAmong history pages rest findings)
    ⊎ ((first : Finding) × (others : List Finding) × (findings ≡ first ∷ others)
    × IsFirstFinding (IsStaleAmong history at.0 at.1 pages) (Some first) × AreFindingsAmong history pages rest others)

-- each page at which a translation of one of these pairs is stale is one of these
abbrev pub AreAllPages : History → List ℕ → List (ℕ × ℕ) → Type 0
AreAllPages history pages pairs =
    (finding : Finding) → IsIn (finding.cpu, finding.pcid) pairs → IsStale history finding → IsIn finding.page pages

-- findings with one before them, where there is one
abbrev pub with_first : Option Finding → List Finding → List Finding
with_first None findings = findings
with_first (Some first) findings = first ∷ findings
