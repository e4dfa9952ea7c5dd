-- Walks that read equal entries are equal, and come to the same tables.
use Rattle.std.proofs.Common.{◌≡◌, ℕ, zero, suc, ◌≤◌, Option, Some, None, refl, sym, ap, ◌∙◌, arith}
use Rattle.std.specs.Prelude.{option_map}
use Rattle.paging_model.specs.Memory.{Memory, entry_at}
use Rattle.paging_model.specs.Entries.{entry_of, joined_bits, root_bits}
use Rattle.paging_model.specs.Walking.{walk, walk_from, at_value, at_entry, entry_address, entry_read, top_level}
use Rattle.paging_model.specs.TableUses.{Reaches, at_root, below, IsUse}
use Rattle.paging_model.specs.Translations.{raw_target, raw_target_of}
use Rattle.paging_model.specs.declared.registers.Settings.{Settings}
use Rattle.paging_model.specs.declared.entries.Bits.{Bits}
use Rattle.paging_model.specs.declared.entries.Entry.{Entry}
use Rattle.paging_model.specs.declared.entries.Entry.TheVariants as entry
use Rattle.paging_model.specs.declared.spaces.TableUse.{TableUse}
use Rattle.paging_model.specs.declared.walks.Walk.{Walk}
use Rattle.paging_laws.specs.ReadEntries.{ReadAlike, ReadAlikeAbove}

-- two walks from an entry down are equal where the walks from the table that it references are
same_at_entry : (one other : ℕ → Bits → Walk) (level x : ℕ) (above : Bits) (meaning : Entry)
    → ((frame : ℕ) (bits : Bits) → meaning ≡ entry.Table frame bits → one frame (joined_bits above bits) ≡ other frame (joined_bits above bits))
    → at_entry one level x above meaning ≡ at_entry other level x above meaning
same_at_entry one other level x above entry.Absent same = refl
same_at_entry one other level x above entry.Reserved same = refl
same_at_entry one other level x above (entry.Table frame bits) same = same frame bits refl
same_at_entry one other level x above (entry.Leaf frame bits key global) same = refl

same_at_value : (one other : ℕ → Bits → Walk) (settings : Settings) (level x : ℕ) (above : Bits) (value : Option ℕ)
    → ((number frame : ℕ) (bits : Bits) → value ≡ Some number → entry_of level settings number ≡ entry.Table frame bits
    → one frame (joined_bits above bits) ≡ other frame (joined_bits above bits))
    → at_value one settings level x above value ≡ at_value other settings level x above value
same_at_value one other settings level x above None same = refl
same_at_value one other settings level x above (Some number) same =
    same_at_entry one other level x above (entry_of level settings number) (λ frame bits means. same number frame bits refl means)

module _ (one other : Memory) (settings : Settings) (root x : ℕ) (alike : ReadAlike one other settings root x) where
  -- from each table that the walk comes to
  pub walk_from-alike : (level table : ℕ) (above : Bits) → Reaches one settings root level x table above
      → walk_from one settings level x table above ≡ walk_from other settings level x table above
  unfolding walk_from
  walk_from-alike zero table above reached = refl
  walk_from-alike (suc lower) table above reached =
      same_at_value (λ frame bits. walk_from one settings lower x frame bits) (λ frame bits. walk_from other settings lower x frame bits)
      settings (suc lower) x above (entry_at one (entry_address (suc lower) x table))
      (λ number frame bits was_read means.
      let read : entry_read one settings (suc lower) x table ≡ Some (entry.Table frame bits) = rw was_read (ap Some means) in
      walk_from-alike lower frame (joined_bits above bits) (below reached read))
      ∙ ap (at_value (λ frame bits. walk_from other settings lower x frame bits) settings (suc lower) x above) (alike (suc lower) table above reached)

  pub walk-alike : walk one settings root x ≡ walk other settings root x
  unfolding walk
  walk-alike = walk_from-alike (top_level settings) root root_bits at_root

  pub raw_target-alike : raw_target one settings root x ≡ raw_target other settings root x
  raw_target-alike = ap raw_target_of walk-alike

-- as far down as it reads equal entries, a walk comes to the same tables in both memories
Reaches-alike : {one other : Memory} {settings : Settings} {root x level table : ℕ} {above : Bits} (least : ℕ)
    → ReadAlikeAbove least one other settings root x → least ≤ level
    → Reaches one settings root level x table above → Reaches other settings root level x table above
Reaches-alike least alike within at_root = at_root
Reaches-alike {settings = settings} least alike within (below {level = level} {table = table} {above = above} reached read) =
    below (Reaches-alike least alike (omega arith) reached)
    (sym (ap (option_map (λ value. entry_of (suc level) settings value)) (alike (suc level) table above (omega arith) reached)) ∙ read)

pub Reaches-back : {one other : Memory} {settings : Settings} {root x level table : ℕ} {above : Bits} (least : ℕ)
    → ReadAlikeAbove least one other settings root x → least ≤ level
    → Reaches other settings root level x table above → Reaches one settings root level x table above
Reaches-back least alike within at_root = at_root
Reaches-back {settings = settings} least alike within (below {level = level} {table = table} {above = above} reached read) =
    let here = Reaches-back least alike (omega arith) reached in
    below here (ap (option_map (λ value. entry_of (suc level) settings value)) (alike (suc level) table above (omega arith) here) ∙ read)

-- a use stands in every memory in which the entries above it are the same
pub use-alike : (one other : Memory) (settings : Settings) (root : ℕ) (table : TableUse) → IsUse one settings root table
    → ReadAlikeAbove table.level one other settings root table.prefix → IsUse other settings root table
use-alike one other settings root table is_use alike =
    record { serves = is_use.serves; reached = Reaches-alike table.level alike (omega arith) is_use.reached }

-- an entry that references a table is read, and means that
goes_on_at_value : (go : ℕ → Bits → Walk) (settings : Settings) (level x : ℕ) (above : Bits) (value : Option ℕ) (frame : ℕ) (bits : Bits)
    → option_map (λ number. entry_of level settings number) value ≡ Some (entry.Table frame bits)
    → at_value go settings level x above value ≡ go frame (joined_bits above bits)
goes_on_at_value go settings level x above None frame bits means = absurd cc
goes_on_at_value go settings level x above (Some number) frame bits means =
    let meaning : entry_of level settings number ≡ entry.Table frame bits = cc in
    rw meaning refl

-- the walk goes on from each table that it comes to, with the bits that were joined above it
pub walk-reached : {memory : Memory} {settings : Settings} {root x level table : ℕ} {above : Bits}
    → Reaches memory settings root level x table above → walk memory settings root x ≡ walk_from memory settings level x table above
unfolding walk walk_from
walk-reached at_root = refl
walk-reached {memory = memory} {settings = settings} {x = x} (below {level = level} {table = table} {frame = frame} {above = above} {bits = bits} reached read) =
    walk-reached reached
    ∙ goes_on_at_value (λ frame bits. walk_from memory settings level x frame bits) settings (suc level) x above
    (entry_at memory (entry_address (suc level) x table)) frame bits read
