-- What is held, from the roots down, over any way in which entries are made at times and are taken: all that an audit's
-- descent speaks of. Our own words, over SDM 3A, "Caching Translation Information".
use Rattle.std.specs.Prelude.{◌≡◌, ℕ, zero, suc, ◌%◌, ◌<◌, ◌≤◌, ◌⊎◌, Bool, true, false, Option, Some}
use Rattle.paging_model.specs.declared.entries.Bits.{Bits}
use Rattle.history_model.specs.CachedTranslations.{Held}

-- the times that pass a test
abbrev pub IsTimeOf : (ℕ → Bool) → ℕ → Type 0
IsTimeOf in_use t = in_use t ≡ true

-- `makes level table bits x t` is what is made at a time of the entry of a table that serves x, under the bits that were
-- joined above it
abbrev pub WayOfMaking : Type 0
WayOfMaking = ℕ → ℕ → Bits → ℕ → ℕ → Option Held

-- `takes level x held t` tells whether the event that led to a time took what is held of a level for x
abbrev pub WayOfTaking : Type 0
WayOfTaking = ℕ → ℕ → Held → ℕ → Bool

-- two ways of making entries are alike for tables at multiples of 4 KBytes
abbrev pub MakeAlike : WayOfMaking → WayOfMaking → Type 0
MakeAlike some other = (level table x t : ℕ) (bits : Bits) → table % 4096 ≡ 0
    → some level table bits x t ≡ other level table bits x t

-- two ways of taking are alike
abbrev pub TakeAlike : WayOfTaking → WayOfTaking → Type 0
TakeAlike some other = (level x t : ℕ) (held : Held) → some level x held t ≡ other level x held t

-- the tables that entries of such tables reference are such tables
abbrev pub ReferenceTables : WayOfMaking → Type 0
ReferenceTables makes = (level table x t : ℕ) (bits : Bits) (held : Held) → table % 4096 ≡ 0
    → makes level table bits x t ≡ Some held → held.leaf ≡ false → held.frame % 4096 ≡ 0

-- by one way of making and one of taking, from the beginning to now
module _ (makes : WayOfMaking) (takes : WayOfTaking) (now : ℕ) where
  -- held at time u: made at a time at which the table was in use, up to u, and not taken since
  pub record IsKept (x : ℕ) (InUse : ℕ → Type 0) (level table : ℕ) (bits : Bits) (u : ℕ) (held : Held) : Type 0 where
    pub t : ℕ
    pub in_use : InUse t
    pub is_made : makes level table bits x t ≡ Some held
    pub order : t ≤ u
    pub within : u ≤ now
    pub spared : (v : ℕ) → t < v → v ≤ u → takes level x held v ≡ false

  -- a table that is in use at some times leads to a translation of x that is held now, by an entry of level k: an entry
  -- of the table maps the page, or it references a table, which is in use while that entry is held
  abbrev pub Leads : ℕ → (ℕ → Type 0) → ℕ → ℕ → Bits → ℕ → Held → Type 0
  Leads x InUse zero table bits k held = ⊥
  Leads x InUse (suc lower) table bits k held =
      ((k ≡ suc lower) × (held.leaf ≡ true) × IsKept x InUse (suc lower) table bits now held)
      ⊎ ((above : Held) × (above.leaf ≡ false)
      × Leads x (λ u. IsKept x InUse (suc lower) table bits u above) lower above.frame above.bits k held)

  -- one of the times at which a table is in use is enough for it to lead to a translation
  pub record LeadsAtOneTime (x : ℕ) (InUse : ℕ → Type 0) (level table : ℕ) (bits : Bits) (k : ℕ) (held : Held)
      : Type 0 where
    pub t : ℕ
    pub in_use : InUse t
    pub leads : Leads x (λ u. u ≡ t) level table bits k held
