-- The bytes of the generated core: its headers, its notes and its memory. (Our own format; docs/FORMATS.md.)
-- System V gABI, "ELF Header", "Program Header" and "Note Section".
use Rattle.std.specs.Prelude.{ℕ, zero, suc, ◌+◌, ◌-◌, ◌/◌, ◌%◌, ◌==◌, List, [], ◌∷◌, ◌++◌, length, replicate, if◌then◌else◌}
use Rattle.byteorder.specs.Endian.{little_bytes}
use Rattle.elf_core.specs.FileHeader.{magic}
use Rattle.elf_core.specs.StateNotes.{owner}
use Rattle.edit_log.specs.Numbers.{between}
use Rattle.image_gen.specs.GeneratedTables.{root, table, page, open_entry}

-- fields of 2, 4 and 8 bytes, and fields that are 0
abbrev pub half : ℕ → List ℕ
half n = little_bytes 2 n

abbrev pub word : ℕ → List ℕ
word n = little_bytes 4 n

abbrev pub xword : ℕ → List ℕ
xword n = little_bytes 8 n

abbrev pub zero_bytes : ℕ → List ℕ
zero_bytes n = replicate n 0

-- a little-endian core of the 64-bit class for x86-64, with two program headers from 64 on
abbrev pub file_header : List ℕ
file_header = magic ++ 2 ∷ 1 ∷ zero_bytes 10 ++ half 4 ++ half 62 ++ zero_bytes 12 ++ xword 64 ++ zero_bytes 14 ++ half 56 ++ half 2 ++ zero_bytes 6

-- a program header: its type, and where its bytes stand in the file; a segment of memory has physical address 0
abbrev pub program_header_bytes : ℕ → ℕ → ℕ → List ℕ
program_header_bytes kind offset size = word kind ++ zero_bytes 4 ++ xword offset ++ zero_bytes 16 ++ xword size ++ zero_bytes 16

-- a state note, of a type
abbrev pub state_note : ℕ → List ℕ → List ℕ
state_note kind description = word (length owner) ++ word (length description) ++ word kind ++ owner ++ zero_bytes 2 ++ description

-- physical addresses of 40 bits, and pages of 1 GByte
abbrev pub machine_description : List ℕ
machine_description = word 40 ++ word 1

-- a processor with paging of four levels and without PCIDs: CR0, CR3, CR4, EFER, RFLAGS, PKRU and PKRS
abbrev pub processor_description : ℕ → List ℕ
processor_description number =
    word number ++ zero_bytes 4 ++ xword 0x80010001 ++ xword root ++ xword 0x20 ++ xword 0xd00 ++ xword 0x2 ++ word 0 ++ word 0 ++ zero_bytes 8

-- what a slot of memory holds, by its address: an entry, or zeros
abbrev pub stands_at : ℕ → ℕ
stands_at a =
    if a == root then open_entry 0x2000 else
    (if a == 0x2000 then open_entry 0x3000 else
    (if between 0x3000 0x307f a then open_entry (table ((a - 0x3000) / 8)) else
    (if between 0x10000 0x1ffff a then open_entry (page ((a - 0x10000) / 0x1000) (a % 0x1000 / 8)) else 0)))

-- the bytes of so many slots, from one on
abbrev pub memory_from : ℕ → ℕ → List ℕ
memory_from a zero = []
memory_from a (suc n) = xword (stands_at a) ++ memory_from (a + 8) n

-- how many slots memory has; it stays a name in proofs, so that none of them computes all slots
unfoldable pub memory_slots : ℕ
memory_slots = 131072

-- 1 MByte from physical address 0 on
unfoldable pub memory_bytes : List ℕ
memory_bytes = memory_from 0 memory_slots

-- the file's bytes before those of memory: 384
abbrev pub headers : List ℕ
headers =
    file_header ++ program_header_bytes 4 176 208 ++ program_header_bytes 1 384 1048576
    ++ state_note 1 machine_description ++ state_note 2 (processor_description 0) ++ state_note 2 (processor_description 1)

-- the file
abbrev pub generated_core : List ℕ
generated_core = headers ++ memory_bytes
