-- What the calls of an index make of the uses that it holds. The list is described up to order: by what stands in it, and
-- by how many pages it counts.
use Rattle.std.specs.Prelude.{◌≡◌, ℕ, ◌+◌, ◌<◌, ◌≤◌, ◌⊎◌, List, [], ◌∷◌, length, Option, MatchOption}
use Rattle.paging_model.specs.Counting.{IsIn}
use Rattle.paging_model.specs.declared.spaces.TableUse.{TableUse}
use Rattle.frame_index.specs.declared.counted_use.CountedUse.{CountedUse}

-- the use is at a level and a prefix
abbrev pub IsAt : ℕ → ℕ → CountedUse → Type 0
IsAt level prefix one = (one.table.level ≡ level) × (one.table.prefix ≡ prefix)

-- none of a list is at a level and a prefix
abbrev pub NoneAt : ℕ → ℕ → List CountedUse → Type 0
NoneAt level prefix [] = Unit {0}
NoneAt level prefix (one ∷ rest) = (IsAt level prefix one → ⊥) × NoneAt level prefix rest

-- each use of a list has a level and a prefix of its own
abbrev pub HaveOwnPlaces : List CountedUse → Type 0
HaveOwnPlaces [] = Unit {0}
HaveOwnPlaces (one ∷ rest) = NoneAt one.table.level one.table.prefix rest × HaveOwnPlaces rest

-- how many pages the tables map, of all uses together
abbrev pub pages_counted : List CountedUse → ℕ
pages_counted [] = 0
pages_counted (one ∷ rest) = one.pages + pages_counted rest

-- one use more
pub record HasOneMore (item : CountedUse) (old new : List CountedUse) : Type 0 where
  pub each : (one : CountedUse) → IsIn one new → ((one ≡ item) ⊎ IsIn one old)
  pub item_is : IsIn item new
  pub others : (one : CountedUse) → IsIn one old → IsIn one new
  pub many : length new ≡ length old + 1
  pub pages : pages_counted new ≡ pages_counted old + item.pages

-- a use of a lower level whose prefix lies in a range
pub record IsUnder (first last level : ℕ) (table : TableUse) : Type 0 where
  pub lower : table.level < level
  pub from : first ≤ table.prefix
  pub to : table.prefix ≤ last

-- those are gone, and no others
pub record AreRemoved (first last level : ℕ) (old new : List CountedUse) : Type 0 where
  pub were : (one : CountedUse) → IsIn one new → IsIn one old
  pub none : (one : CountedUse) → IsIn one new → IsUnder first last level one.table → ⊥
  pub others : (one : CountedUse) → IsIn one old → (IsIn one new ⊎ IsUnder first last level one.table)

-- the use with another number of pages
abbrev pub with_pages : ℕ → CountedUse → CountedUse
with_pages pages one = record { table = one.table; pages = pages }

-- the use at a level and a prefix has this number of pages now, and all others are as before
pub record IsRecounted (level prefix pages : ℕ) (old new : List CountedUse) : Type 0 where
  pub each : (one : CountedUse) → IsIn one new
      → ((IsIn one old × (IsAt level prefix one → ⊥))
      ⊎ ((was : CountedUse) × IsIn was old × IsAt level prefix was × (one ≡ with_pages pages was)))
  pub others : (one : CountedUse) → IsIn one old → (IsAt level prefix one → ⊥) → IsIn one new
  pub changed : (one : CountedUse) → IsIn one old → IsAt level prefix one → IsIn (with_pages pages one) new
  pub many : length new ≡ length old
  pub pages_are : (one : CountedUse) → IsIn one old → IsAt level prefix one
      → pages_counted new + one.pages ≡ pages_counted old + pages

-- the use at a level and a prefix, or that there is none
abbrev pub IsFound : (level prefix : ℕ) → List CountedUse → Option CountedUse → Type 0
IsFound level prefix all found =
    MatchOption found ((one : CountedUse) → IsIn one all → IsAt level prefix one → ⊥)
    (λ one. IsIn one all × IsAt level prefix one)

-- a table of a higher level first, and of one level the one with the lower prefix
abbrev pub Precedes : TableUse → TableUse → Type 0
Precedes one other = (other.level < one.level) ⊎ ((one.level ≡ other.level) × (one.prefix < other.prefix))

-- each precedes the next
abbrev pub AreOrdered : List TableUse → Type 0
AreOrdered [] = Unit {0}
AreOrdered (one ∷ []) = Unit {0}
AreOrdered (one ∷ two ∷ rest) = Precedes one two × AreOrdered (two ∷ rest)

-- the tables of some uses of a list, each once: exactly those that have a property, in order
pub record AreThose (Has : TableUse → Type 0) (all : List CountedUse) (tables : List TableUse) : Type 0 where
  pub were : (table : TableUse) → IsIn table tables
      → ((one : CountedUse) × IsIn one all × (one.table ≡ table) × Has table)
  pub others : (one : CountedUse) → IsIn one all → Has one.table → IsIn one.table tables
  pub ordered : AreOrdered tables
