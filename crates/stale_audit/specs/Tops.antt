-- The top table: its upper half serves the addresses at the end, and what lies between isn't canonical.
-- SDM 3A, "4-Level Paging and 5-Level Paging"; SDM 1, "Canonical Addressing".
use Rattle.std.specs.Prelude.{◌≡◌, ℕ, ◌+◌, ◌-◌, ◌*◌, ◌%◌, ◌^◌, ◌<◌, ◌≤◌, ◌⊎◌, if◌then◌else◌, List, [], ◌∷◌, nat_lt}
use Rattle.paging_model.specs.LinearAddress.{span}
use Rattle.paging_model.specs.Entries.{IsFrame, root_bits}
use Rattle.history_model.specs.CachedTranslations.{Held}
use Rattle.audit_laws.specs.Leads.{IsTimeOf, Leads}
use Rattle.audit_laws.specs.declared.stale_pages.StalePage.{StalePage}
use Rattle.time_sets.specs.Sets.{has_time}
use Rattle.stale_audit.specs.Facts.{Facts, IsStaleBy, makes_of, takes_of}

-- the first address that a slot of the top table serves
abbrev pub top_first : ℕ → ℕ → ℕ
top_first level i =
    if nat_lt i 256 then i * span level else i * span level + (2 ^ 64 - 512 * span level)

-- a page in the lower or in the upper half of the linear addresses
pub record IsTopPage (level x : ℕ) : Type 0 where
  pub below : x < 2 ^ 64
  pub aligned : x % 4096 ≡ 0
  pub half : (x < 256 * span level) ⊎ (2 ^ 64 ≤ x + 256 * span level)

-- a root that is in use at some times leads to a translation that is stale at a page
pub record IsFoundFrom (facts : Facts) (InUse : ℕ → Type 0) (level root : ℕ) (one : StalePage) : Type 0 where
  pub page : IsTopPage level one.page
  pub k : ℕ
  pub held : Held
  pub leads : Leads (makes_of facts) (takes_of facts) facts.end one.page InUse level root root_bits k held
  pub stale : IsStaleBy facts k held one

-- the same, before an address
pub record IsFoundBefore (facts : Facts) (InUse : ℕ → Type 0) (level root end : ℕ) (one : StalePage) : Type 0 where
  pub found : IsFoundFrom facts InUse level root one
  pub before : one.page < end

-- one of some roots, each with the times at which it was in use, leads to one
abbrev pub IsFoundFromSome : Facts → ℕ → List (ℕ × List (ℕ × ℕ)) → StalePage → Type 0
IsFoundFromSome facts level [] one = ⊥
IsFoundFromSome facts level (root ∷ rest) one =
    IsFoundFrom facts (IsTimeOf (has_time root.1)) level root.0 one ⊎ IsFoundFromSome facts level rest one

-- each of the roots is the frame of a table
abbrev pub AreFrames : List (ℕ × List (ℕ × ℕ)) → Type 0
AreFrames [] = Unit {0}
AreFrames (root ∷ rest) = IsFrame root.0 × AreFrames rest
