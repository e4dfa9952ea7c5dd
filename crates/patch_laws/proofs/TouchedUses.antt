-- What is found from the patches of a write are the uses that it touches.
use Rattle.std.proofs.Common.{◌≡◌, ℕ, suc, ◌+◌, ◌*◌, ◌%◌, ◌<◌, inl, inr, Bool, true, false, List, Option, Some, None, arith}
use Rattle.std.specs.Prelude.{not, option_map, if◌then◌else◌}
use Rattle.std.proofs.Math.Nat.{mul-mod_left}
use Rattle.std.proofs.lemmas.Bool.{cases_lt}
use Rattle.std.proofs.lemmas.Bool.Decides.{nat_tests}
use Rattle.paging_model.specs.BitRanges.{field}
use Rattle.paging_model.specs.Counting.{IsIn, AreAll}
use Rattle.paging_model.specs.Entries.{entry_of, bits_of, is_global, is_leaf, is_present, is_reserved, page_frame, protection_key, table_frame}
use Rattle.paging_model.specs.LinearAddress.{index}
use Rattle.paging_model.specs.Memory.{Memory, entry_at}
use Rattle.paging_model.specs.TableUses.{Reaches, at_root, below}
use Rattle.paging_model.specs.Walking.{entry_address}
use Rattle.paging_model.specs.declared.registers.Settings.{Settings}
use Rattle.paging_model.specs.declared.entries.Bits.{Bits}
use Rattle.paging_model.specs.declared.entries.Entry.TheVariants as entry
use Rattle.paging_model.specs.declared.spaces.SpaceKey.{SpaceKey}
use Rattle.paging_model.specs.declared.spaces.TableUse.{TableUse}
use Rattle.history_model.specs.KeptSpaces.{IsTouched, IsWrittenSlot}
use Rattle.kept_laws.specs.WrittenPlaces.{meets, AreAlikeBut}
use Rattle.kept_laws.specs.Patches.{ArePatches, uses_in_patches}
use Rattle.kept_laws.specs.declared.patches.Patch.{Patch}
use Rattle.patch_laws.proofs.PatchRanges.{found-beneath_one, found-distinct}
use Rattle.patch_laws.proofs.SpaceUpdates.{patches-there, never_both, serves-below, serves-canonical, outermost-in, patched-or-none, found-use, use-found}

-- an entry references a table at a multiple of 4 KBytes
table_by_tests : (present reserved leaf : Bool) (page table key frame : ℕ) (bits own : Bits) (global : Bool)
    → (if not present then entry.Absent else (if reserved then entry.Reserved else (if leaf then entry.Leaf page bits key global else entry.Table table bits))) ≡ entry.Table frame own
    → table ≡ frame
table_by_tests false reserved leaf page table key frame bits own global means = absurd (cc)
table_by_tests true true leaf page table key frame bits own global means = absurd (cc)
table_by_tests true false true page table key frame bits own global means = absurd (cc)
table_by_tests true false false page table key frame bits own global means = cc

frame-whole : (level : ℕ) (settings : Settings) (value : Option ℕ) (frame : ℕ) (own : Bits)
    → option_map (λ number. entry_of level settings number) value ≡ Some (entry.Table frame own) → frame % 4096 ≡ 0
unfolding entry_of
frame-whole level settings None frame own read = absurd (cc)
frame-whole level settings (Some number) frame own read =
    let means : entry_of level settings number ≡ entry.Table frame own = cc in
    let same =
    table_by_tests (is_present number) (is_reserved level settings number) (is_leaf level number) (page_frame level number) (table_frame number)
    (protection_key number) frame (bits_of number) own (is_global number) means in
    rw (← same) (mul-mod_left (field number 51 12) 4096)

-- so each entry that a walk reads lies at a multiple of 8
pub Reaches-whole : {memory : Memory} {settings : Settings} {root x level table : ℕ} {above : Bits} → root % 8 ≡ 0
    → Reaches memory settings root level x table above → table % 8 ≡ 0
Reaches-whole whole at_root = whole
Reaches-whole {memory = memory} {settings = settings} {x = x} whole (below {level = level} {table = table} {frame = frame} {bits = bits} reached read) =
    let aligned = frame-whole (suc level) settings (entry_at memory (entry_address (suc level) x table)) frame bits read in
    omega (arith, aligned)

entry-whole : (table i : ℕ) → table % 8 ≡ 0 → (table + 8 * i) % 8 ≡ 0
entry-whole table i whole = omega arith

met : (at n place : ℕ) → place < at + n → at < place + 8 → meets at n place ≡ true
met at n place begins ends = grind (arith, nat_tests)

met-slot : (at n place : ℕ) → place % 8 ≡ 0 → meets at n place ≡ true → IsWrittenSlot at n place
met-slot at n place whole is = record {
  aligned = whole;
  begins = elim (cases_lt place (at + n)) [ inl less ↦ less | inr more ↦ absurd (grind (arith, nat_tests)) ];
  ends = elim (cases_lt at (place + 8)) [ inl less ↦ less | inr more ↦ absurd (grind (arith, nat_tests)) ];
}

module _ (at n : ℕ) (one other : Memory) (key : SpaceKey) (patches : List Patch) (alike : AreAlikeBut (meets at n) one other)
    (are : ArePatches one (meets at n) key.settings key.root patches) (whole : key.root % 8 ≡ 0) where
  there : ArePatches other (meets at n) key.settings key.root patches
  there = patches-there (meets at n) one other key.settings key.root patches alike are

  found-touched : (table : TableUse) → IsIn table (uses_in_patches other key.settings patches) → IsTouched other key at n table
  found-touched table is =
      let it = found-beneath_one other key.settings patches table is in
      let patch = it.patch in
      let first = outermost-in (meets at n) other key.settings key.root patch (there.each patch it.is_in) table.prefix it.beneath.low it.beneath.high in
      record {
        use_is = found-use (meets at n) other key.settings key.root patches there table is;
        level = patch.table.level;
        frame = patch.table.frame;
        bits = patch.table.bits;
        above = it.beneath.lower;
        reached = first.reached;
        written =
            met-slot at n (entry_address patch.table.level table.prefix patch.table.frame)
            (entry-whole patch.table.frame (index patch.table.level table.prefix) (Reaches-whole whole first.reached)) first.is_written;
      }

  touched-found : (table : TableUse) → IsTouched other key at n table → IsIn table (uses_in_patches other key.settings patches)
  touched-found table is =
      let written = met at n (entry_address is.level table.prefix is.frame) is.written.begins is.written.ends in
      elim (patched-or-none (meets at n) other key.settings key.root patches there table.prefix (serves-below key.settings table.level table.prefix is.use_is.serves) (serves-canonical key.settings table.level table.prefix is.use_is.serves)) [
        | inr none ↦ absurd (never_both _ written (none is.level is.frame is.bits is.reached))
        | inl patched ↦ elim (cases_lt table.level patched.patch.table.level) [
          | inl lower ↦
              use-found (meets at n) other key.settings key.root patches there table is.use_is
              (record { patch = patched.patch; is_in = patched.is_in; beneath = record { lower = lower; low = patched.low; high = patched.high } })
          | inr higher ↦
              absurd (never_both _ written
              ((there.each patched.patch patched.is_in).none_above table.prefix patched.low patched.high is.level is.frame is.bits
              (omega (arith, is.above)) is.reached))
        ]
      ]

  pub touched-are : AreAll (IsTouched other key at n) (uses_in_patches other key.settings patches)
  touched-are = record {
    some = record { have = found-touched; distinct = found-distinct other key.settings patches are.ascending };
    all = touched-found;
  }
