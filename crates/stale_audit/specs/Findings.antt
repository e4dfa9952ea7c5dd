-- What is found stale under a table, and by one slot of it. Our own words, over SDM 3A, "Caching Translation Information".
use Rattle.std.specs.Prelude.{◌≡◌, ℕ, ◌+◌, ◌<◌, ◌≤◌, ◌⊎◌, true, false, List, [], ◌∷◌}
use Rattle.paging_model.specs.LinearAddress.{span}
use Rattle.paging_model.specs.declared.entries.Bits.{Bits}
use Rattle.history_model.specs.CachedTranslations.{Held}
use Rattle.audit_laws.specs.Firsts.{IsFirst}
use Rattle.audit_laws.specs.Leads.{IsKept, IsTimeOf, Leads}
use Rattle.audit_laws.specs.declared.stale_pages.StalePage.{StalePage}
use Rattle.present_pages.specs.StalePages.{IsPageIn}
use Rattle.time_sets.specs.Sets.{has_time}
use Rattle.stale_audit.specs.Facts.{Facts, IsStaleBy, makes_of, takes_of}
use Rattle.stale_audit.specs.declared.tables.HeldTable.{HeldTable}
use Rattle.stale_audit.specs.declared.slots.SlotFindings.{SlotFindings}

-- a table that is in use at some times leads to a translation of a page of a range that is stale there
pub record IsFoundIn (facts : Facts) (first end : ℕ) (InUse : ℕ → Type 0) (level table : ℕ) (bits : Bits) (one : StalePage) : Type 0 where
  pub page : IsPageIn first end one.page
  pub k : ℕ
  pub held : Held
  pub leads : Leads (makes_of facts) (takes_of facts) facts.end one.page InUse level table bits k held
  pub stale : IsStaleBy facts k held one

-- an entry of the table itself is such a translation
pub record IsLeafFoundIn (facts : Facts) (first end : ℕ) (InUse : ℕ → Type 0) (level table : ℕ) (bits : Bits) (one : StalePage) : Type 0 where
  pub page : IsPageIn first end one.page
  pub held : Held
  pub leaf : held.leaf ≡ true
  pub kept : IsKept (makes_of facts) (takes_of facts) facts.end one.page InUse level table bits facts.end held
  pub stale : IsStaleBy facts level held one

-- an entry that serves x and references a table, under these joined bits, is held at a time
pub record IsReferenced (facts : Facts) (x : ℕ) (InUse : ℕ → Type 0) (level table : ℕ) (bits : Bits) (frame : ℕ) (joined : Bits) (u : ℕ) : Type 0 where
  pub above : Held
  pub references : above.leaf ≡ false
  pub frame_is : above.frame ≡ frame
  pub bits_are : above.bits ≡ joined
  pub kept : IsKept (makes_of facts) (takes_of facts) facts.end x InUse level table bits u above

-- a table of a list is in use at a time
abbrev pub IsListedAt : List HeldTable → ℕ → Bits → ℕ → Type 0
IsListedAt [] frame bits u = ⊥
IsListedAt (one ∷ rest) frame bits u =
    ((one.frame ≡ frame) × (one.bits ≡ bits) × (has_time one.times u ≡ true)) ⊎ IsListedAt rest frame bits u

-- what the entries of one slot come to: the first stale translation, and the referenced tables, for each x that it serves
pub record IsSlot (facts : Facts) (first : ℕ) (InUse : ℕ → Type 0) (level table : ℕ) (bits : Bits) (slot : SlotFindings) : Type 0 where
  pub found : IsFirst (IsLeafFoundIn facts first (first + span level) InUse level table bits) slot.found
  pub listed : (x frame : ℕ) (joined : Bits) (u : ℕ) → first ≤ x → x < first + span level
      → IsReferenced facts x InUse level table bits frame joined u → IsListedAt slot.tables.items frame joined u
  pub referenced : (x frame : ℕ) (joined : Bits) (u : ℕ) → first ≤ x → x < first + span level
      → IsListedAt slot.tables.items frame joined u → IsReferenced facts x InUse level table bits frame joined u

-- what is found under one of the tables of a list
abbrev pub IsFoundUnder : Facts → ℕ → ℕ → ℕ → List HeldTable → StalePage → Type 0
IsFoundUnder facts first end level [] one = ⊥
IsFoundUnder facts first end level (table ∷ rest) one =
    IsFoundIn facts first end (IsTimeOf (has_time table.times)) level table.frame table.bits one
    ⊎ IsFoundUnder facts first end level rest one

-- whenever a table of a level is in use, it leads to nothing stale in a range
abbrev pub NothingFound : Facts → ℕ → ℕ → ℕ → ℕ → Bits → Type 0
NothingFound facts first end level table bits = (in_use : List (ℕ × ℕ)) (one : StalePage)
    → IsFoundIn facts first end (IsTimeOf (has_time in_use)) level table bits one → ⊥
