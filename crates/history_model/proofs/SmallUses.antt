-- Uses, touched uses and written entries under the small settings, by tests of their numbers, which compute.
use Rattle.std.proofs.Common.{◌≡◌, ℕ, suc, ◌+◌, ◌<◌, ◌%◌, ◌^◌, ◌&&◌, Bool, true, false, inl, inr, refl}
use Rattle.std.specs.Prelude.{◌==◌, nat_lt}
use Rattle.std.proofs.lemmas.Bool.{leb-true, eqb-true}
use Rattle.paging_model.specs.Entries.{root_bits}
use Rattle.paging_model.specs.LinearAddress.{is_canonical, span}
use Rattle.paging_model.specs.Memory.{Memory}
use Rattle.paging_model.specs.TableUses.{Reaches, at_root, Serves, IsUse}
use Rattle.paging_model.specs.Walking.{entry_address}
use Rattle.paging_model.specs.WorkedSpaces.{small_settings}
use Rattle.paging_model.specs.declared.entries.Bits.{Bits}
use Rattle.paging_model.specs.declared.spaces.TableUse.{TableUse}
use Rattle.history_model.specs.History.{page_of}
use Rattle.history_model.specs.KeptSpaces.{IsWrittenSlot, IsTouched, IsWrittenEntry}
use Rattle.history_model.specs.WorkedKeptSpaces.{space_at}
use Rattle.history_model.proofs.ListedThings.{both}

less : (a b : ℕ) → nat_lt a b ≡ true → a < b
less a b test = leb-true (suc a) b test

-- the prefix of a lower table
abbrev pub is_served : ℕ → ℕ → Bool
is_served level prefix =
    nat_lt 0 level && (nat_lt level 4 && (nat_lt prefix (2 ^ 64) && (prefix % span (level + 1) == 0 && is_canonical false prefix)))

serves : (level prefix : ℕ) → is_served level prefix ≡ true → Serves small_settings level prefix
serves level prefix test =
    let lower = both (nat_lt 0 level) _ test in
    let upper = both (nat_lt level 4) _ lower.1 in
    let below = both (nat_lt prefix (2 ^ 64)) _ upper.1 in
    let whole = both (prefix % span (level + 1) == 0) (is_canonical false prefix) below.1 in
    inr (
      less 0 level lower.0,
      less level 4 upper.0,
      record { below = less prefix (2 ^ 64) below.0; whole = eqb-true _ _ whole.0; canonical = whole.1 },
    )

-- a slot that a write touches
abbrev pub is_written : ℕ → ℕ → ℕ → Bool
is_written at n slot = slot % 8 == 0 && (nat_lt slot (at + n) && nat_lt at (slot + 8))

slot_by : (at n slot : ℕ) → is_written at n slot ≡ true → IsWrittenSlot at n slot
slot_by at n slot test =
    let aligned = both (slot % 8 == 0) _ test in
    let ends = both (nat_lt slot (at + n)) (nat_lt at (slot + 8)) aligned.1 in
    record { aligned = eqb-true _ _ aligned.0; begins = less slot (at + n) ends.0; ends = less at (slot + 8) ends.1 }

module _ (memory : Memory) (root : ℕ) where
  pub top_use : IsUse memory small_settings root (record { level = 4; prefix = 0; frame = root; bits = root_bits })
  top_use = record { serves = inl (refl, refl); reached = at_root }

  pub lower_use : (table : TableUse) → is_served table.level table.prefix ≡ true
      → Reaches memory small_settings root table.level table.prefix table.frame table.bits → IsUse memory small_settings root table
  lower_use table served reached = record { serves = serves table.level table.prefix served; reached = reached }

  -- by an entry of the table of a level above
  pub touched_use : (at n upper frame : ℕ) (bits : Bits) (table : TableUse) → is_served table.level table.prefix ≡ true
      → Reaches memory small_settings root table.level table.prefix table.frame table.bits
      → Reaches memory small_settings root upper table.prefix frame bits → nat_lt table.level upper ≡ true
      → is_written at n (entry_address upper table.prefix frame) ≡ true → IsTouched memory (space_at root) at n table
  touched_use at n upper frame bits table served reached above is_above slot = record {
    use_is = lower_use table served reached;
    level = upper;
    frame = frame;
    bits = bits;
    above = less table.level upper is_above;
    reached = above;
    written = slot_by at n (entry_address upper table.prefix frame) slot;
  }

  pub written_entry : (at n : ℕ) (table : TableUse) (slot : ℕ) → IsUse memory small_settings root table
      → table.frame ≡ page_of at → is_written at n slot ≡ true → IsWrittenEntry memory (space_at root) at n (table, slot)
  written_entry at n table slot is_use frame is_slot = record { use_is = is_use; frame = frame; slot = slot_by at n slot is_slot }
