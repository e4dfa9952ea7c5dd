-- All tables that the walk of an address comes to are in a list: it has the top table, and what each entry of a table in it
-- references.
use Rattle.std.proofs.Common.{◌≡◌, ℕ, zero, suc, ◌<◌, inl, inr, List, [], ◌∷◌, Option, Some, sym, ap, subst}
use Rattle.paging_model.specs.Counting.{IsIn}
use Rattle.paging_model.specs.Entries.{joined_bits, root_bits}
use Rattle.paging_model.specs.Memory.{Memory}
use Rattle.paging_model.specs.TableUses.{Reaches, IsUse, at_root, below}
use Rattle.paging_model.specs.Walking.{entry_address, entry_read, top_level}
use Rattle.paging_model.specs.declared.entries.Bits.{Bits}
use Rattle.paging_model.specs.declared.entries.Entry.{Entry}
use Rattle.paging_model.specs.declared.entries.Entry.TheVariants as entry
use Rattle.paging_model.specs.declared.registers.Settings.{Settings}
use Rattle.paging_model.specs.declared.spaces.SpaceKey.{SpaceKey}
use Rattle.paging_model.specs.declared.spaces.TableUse.{TableUse}
use Rattle.history_model.specs.KeptSpaces.{IsWrittenSlot, IsTouched}

-- a table of a level, and the bits above it
abbrev pub Reached : Type 0
Reached = ℕ × ℕ × Bits

-- the table that an entry of a level references is in the list, if it references one
abbrev pub IsListed : List Reached → ℕ → Bits → Option Entry → Type 0
IsListed list level above (Some (entry.Table frame bits)) = IsIn (level, frame, joined_bits above bits) list
IsListed list level above _ = Unit {0}

listed_of : (list : List Reached) (level frame : ℕ) (above bits : Bits) (read : Option Entry) → read ≡ Some (entry.Table frame bits)
    → IsListed list level above read → IsIn (level, frame, joined_bits above bits) list
listed_of list level frame above bits read is listed = subst (λ read. IsListed list level above read) is listed

module _ (memory : Memory) (settings : Settings) (root x : ℕ) where
  abbrev pub HasBelow : List Reached → ℕ → ℕ → Bits → Type 0
  HasBelow list zero table above = Unit {0}
  HasBelow list (suc level) table above = IsListed list level above (entry_read memory settings (suc level) x table)

  -- what the entries of these tables reference is in the list
  abbrev pub HasAllBelow : List Reached → List Reached → Type 0
  HasAllBelow list [] = Unit {0}
  HasAllBelow list (one ∷ rest) = HasBelow list one.0 one.1 one.2 × HasAllBelow list rest

  below_of : (list part : List Reached) (level table : ℕ) (above : Bits)
      → HasAllBelow list part → IsIn (suc level, table, above) part → HasBelow list (suc level) table above
  below_of list [] level table above all is_in = absurd is_in
  below_of list (one ∷ rest) level table above all (inl is) =
      subst (λ (one : Reached). HasBelow list one.0 one.1 one.2) (sym is) all.0
  below_of list (one ∷ rest) level table above all (inr is_in) = below_of list rest level table above all.1 is_in

  pub reached_in : (list : List Reached) → IsIn (top_level settings, root, root_bits) list → HasAllBelow list list
      → {level table : ℕ} {bits : Bits} → Reaches memory settings root level x table bits → IsIn (level, table, bits) list
  reached_in list top all at_root = top
  reached_in list top all (below {level = level} {table = table} {frame = frame} {above = above} {bits = bits} reached read) =
      listed_of list level frame above bits (entry_read memory settings (suc level) x table) read
      (below_of list list level table above all (reached_in list top all reached))

-- no table of the list that lies above a level has a written entry for the address
abbrev pub AreSpared : ℕ → ℕ → ℕ → ℕ → List Reached → Type 0
AreSpared at n x level [] = Unit {0}
AreSpared at n x level (one ∷ rest) =
    (level < one.0 → IsWrittenSlot at n (entry_address one.0 x one.1) → ⊥) × AreSpared at n x level rest

spared_of : (at n x level upper table : ℕ) (bits : Bits) (list : List Reached) → AreSpared at n x level list
    → IsIn (upper, table, bits) list → level < upper → IsWrittenSlot at n (entry_address upper x table) → ⊥
spared_of at n x level upper table bits [] spared is_in above written = is_in
spared_of at n x level upper table bits (one ∷ rest) spared (inl is) above written =
    (subst (λ (one : Reached). level < one.0 → IsWrittenSlot at n (entry_address one.0 x one.1) → ⊥) (sym is) spared.0) above written
spared_of at n x level upper table bits (one ∷ rest) spared (inr is_in) above written =
    spared_of at n x level upper table bits rest spared.1 is_in above written

-- a use isn't touched where no table above it that the walk of its prefix comes to has a written entry
pub not_touched : (memory : Memory) (key : SpaceKey) (at n : ℕ) (table : TableUse) (list : List Reached)
    → IsIn (top_level key.settings, key.root, root_bits) list → HasAllBelow memory key.settings key.root table.prefix list list
    → AreSpared at n table.prefix table.level list → IsTouched memory key at n table → ⊥
not_touched memory key at n table list top all spared touched =
    spared_of at n table.prefix table.level touched.level touched.frame touched.bits list spared
    (reached_in memory key.settings key.root table.prefix list top all touched.reached) touched.above touched.written

-- no table of the list is of a level
abbrev pub AreOfOthers : ℕ → List Reached → Type 0
AreOfOthers level [] = Unit {0}
AreOfOthers level (one ∷ rest) = (level ≡ one.0 → ⊥) × AreOfOthers level rest

others_of : (level table : ℕ) (bits : Bits) (list : List Reached) → AreOfOthers level list → IsIn (level, table, bits) list → ⊥
others_of level table bits [] others is_in = is_in
others_of level table bits (one ∷ rest) others (inl is) = others.0 (ap (λ (one : Reached). one.0) is)
others_of level table bits (one ∷ rest) others (inr is_in) = others_of level table bits rest others.1 is_in

-- there is no use where the walk of its prefix comes to no table of its level
pub not_used : (memory : Memory) (key : SpaceKey) (table : TableUse) (list : List Reached)
    → IsIn (top_level key.settings, key.root, root_bits) list → HasAllBelow memory key.settings key.root table.prefix list list
    → AreOfOthers table.level list → IsUse memory key.settings key.root table → ⊥
not_used memory key table list top all others is_use =
    others_of table.level table.frame table.bits list others
    (reached_in memory key.settings key.root table.prefix list top all is_use.reached)
