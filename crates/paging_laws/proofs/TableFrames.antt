-- The tables that a walk comes to are frames.
use Rattle.std.proofs.Common.{◌≡◌, ℕ, suc, ◌%◌, Bool, true, false, Option, Some, None}
use Rattle.std.proofs.Math.Nat.{mul-mod_left}
use Rattle.std.specs.Prelude.{not, option_map, if◌then◌else◌}
use Rattle.paging_model.specs.BitRanges.{field}
use Rattle.paging_model.specs.Memory.{Memory, entry_at}
use Rattle.paging_model.specs.Entries.{entry_of, bits_of, is_global, is_leaf, is_present, is_reserved, page_frame, protection_key, table_frame}
use Rattle.paging_model.specs.TableUses.{Reaches, at_root, below}
use Rattle.paging_model.specs.Walking.{entry_address}
use Rattle.paging_model.specs.declared.entries.Bits.{Bits}
use Rattle.paging_model.specs.declared.entries.Entry.TheVariants as entry
use Rattle.paging_model.specs.declared.registers.Settings.{Settings}

table_by_tests : (present reserved leaf : Bool) (page table key frame : ℕ) (bits own : Bits) (global : Bool)
    → (if not present then entry.Absent else (if reserved then entry.Reserved else (if leaf then entry.Leaf page bits key global else entry.Table table bits))) ≡ entry.Table frame own
    → table ≡ frame
table_by_tests false reserved leaf page table key frame bits own global means = absurd (cc)
table_by_tests true true leaf page table key frame bits own global means = absurd (cc)
table_by_tests true false true page table key frame bits own global means = absurd (cc)
table_by_tests true false false page table key frame bits own global means = cc

-- an entry references the table at its bits 51:12
table_of_entry : (level : ℕ) (settings : Settings) (value frame : ℕ) (own : Bits) → entry_of level settings value ≡ entry.Table frame own
    → table_frame value ≡ frame
unfolding entry_of
table_of_entry level settings value frame own means =
    table_by_tests (is_present value) (is_reserved level settings value) (is_leaf level value) (page_frame level value) (table_frame value)
    (protection_key value) frame (bits_of value) own (is_global value) means

frame_of_read : (level : ℕ) (settings : Settings) (value : Option ℕ) (frame : ℕ) (own : Bits)
    → option_map (λ number. entry_of level settings number) value ≡ Some (entry.Table frame own) → frame % 4096 ≡ 0
frame_of_read level settings None frame own read = absurd (cc)
frame_of_read level settings (Some number) frame own read =
    let means : entry_of level settings number ≡ entry.Table frame own = cc in
    rw (← table_of_entry level settings number frame own means) (mul-mod_left (field number 51 12) 4096)

-- each table that a walk comes to lies at a multiple of 4 KBytes, where the top table does
pub Reaches-aligned : {memory : Memory} {settings : Settings} {root x level table : ℕ} {above : Bits} → root % 4096 ≡ 0
    → Reaches memory settings root level x table above → table % 4096 ≡ 0
Reaches-aligned aligned at_root = aligned
Reaches-aligned {memory = memory} {settings = settings} {x = x} aligned (below {level = level} {table = table} {frame = frame} {bits = bits} reached read) =
    frame_of_read (suc level) settings (entry_at memory (entry_address (suc level) x table)) frame bits read
