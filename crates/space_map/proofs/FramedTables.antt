-- Each table that a walk comes to lies in a frame below the greatest physical width, where the top table does.
use Rattle.std.proofs.Common.{◌≡◌, ℕ, suc, ◌/◌, ◌%◌, ◌^◌, ◌<◌, Bool, true, false, Option, Some, None, subst, arith}
use Rattle.std.specs.Prelude.{not, option_map, if◌then◌else◌}
use Rattle.std.proofs.Math.Nat.{mod-lt}
use Rattle.paging_model.specs.Memory.{Memory, entry_at}
use Rattle.paging_model.specs.Entries.{IsFrame, entry_of, bits_of, is_global, is_leaf, is_present, is_reserved, page_frame, protection_key, table_frame}
use Rattle.paging_model.specs.TableUses.{Reaches, at_root, below}
use Rattle.paging_model.specs.Walking.{entry_address}
use Rattle.paging_model.specs.declared.registers.Settings.{Settings}
use Rattle.paging_model.specs.declared.entries.Bits.{Bits}
use Rattle.paging_model.specs.declared.entries.Entry.TheVariants as entry
use Rattle.paging_laws.proofs.TableFrames.{Reaches-aligned}

frame-by_tests : (present reserved leaf : Bool) (page table key frame : ℕ) (bits own : Bits) (global : Bool)
    → (if not present then entry.Absent else (if reserved then entry.Reserved else (if leaf then entry.Leaf page bits key global else entry.Table table bits))) ≡ entry.Table frame own
    → table ≡ frame
frame-by_tests false reserved leaf page table key frame bits own global means = absurd (cc)
frame-by_tests true true leaf page table key frame bits own global means = absurd (cc)
frame-by_tests true false true page table key frame bits own global means = absurd (cc)
frame-by_tests true false false page table key frame bits own global means = cc

frame-of_entry : (level : ℕ) (settings : Settings) (value frame : ℕ) (own : Bits) → entry_of level settings value ≡ entry.Table frame own
    → table_frame value ≡ frame
unfolding entry_of
frame-of_entry level settings value frame own means =
    frame-by_tests (is_present value) (is_reserved level settings value) (is_leaf level value) (page_frame level value) (table_frame value)
    (protection_key value) frame (bits_of value) own (is_global value) means

table_frame-below : (value : ℕ) → table_frame value < 2 ^ 52
table_frame-below value =
    let few : value / 2 ^ 12 % 2 ^ 40 < 2 ^ 40 = mod-lt (value / 2 ^ 12) (omega arith) in
    omega (arith, few)

frame-of_read : (level : ℕ) (settings : Settings) (value : Option ℕ) (frame : ℕ) (own : Bits)
    → option_map (λ number. entry_of level settings number) value ≡ Some (entry.Table frame own) → frame < 2 ^ 52
frame-of_read level settings None frame own read = absurd (cc)
frame-of_read level settings (Some number) frame own read =
    let means : entry_of level settings number ≡ entry.Table frame own = cc in
    subst (λ (n : ℕ). n < 2 ^ 52) (frame-of_entry level settings number frame own means) (table_frame-below number)

reaches-below : {memory : Memory} {settings : Settings} {root x level table : ℕ} {above : Bits} → root < 2 ^ 52
    → Reaches memory settings root level x table above → table < 2 ^ 52
reaches-below small at_root = small
reaches-below {memory = memory} {settings = settings} {x = x} small (below {level = level} {table = table} {frame = frame} {bits = bits} reached read) =
    frame-of_read (suc level) settings (entry_at memory (entry_address (suc level) x table)) frame bits read

pub reaches-frame : {memory : Memory} {settings : Settings} {root x level table : ℕ} {above : Bits} → root % 4096 ≡ 0 → root < 2 ^ 52
    → Reaches memory settings root level x table above → IsFrame table
reaches-frame aligned small reached = record { aligned = Reaches-aligned aligned reached; below = reaches-below small reached }
