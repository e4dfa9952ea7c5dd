-- The first 64 bytes of an ELF file, of the 64-bit class.
-- System V gABI, "ELF Header" and "ELF Identification".
use Rattle.std.specs.Prelude.{ℕ, ◌+◌, ◌*◌, ◌==◌, not, nat_lt, List, [], ◌∷◌, length, Result, Ok, Err, slice_index, nat_eq, if◌then◌else◌}
use Rattle.std.specs.List.{starts_with}
use Rattle.elf_core.specs.Steps.{◌>>=◌}
use Rattle.elf_core.specs.Fields.{half_at, xword_at}
use Rattle.elf_core.specs.declared.faults.CoreFault.{CoreFault}
use Rattle.elf_core.specs.declared.faults.CoreFault.TheVariants.{Short, NotElf, Class, Encoding, FileType, FileMachine, HeaderSize, HeaderCount, HeaderRange}

-- 0x7F, and the letters ELF
abbrev pub magic : List ℕ
magic = 0x7f ∷ 0x45 ∷ 0x4c ∷ 0x46 ∷ []

-- EI_CLASS: 2 is the 64-bit class
abbrev pub ei_class : List ℕ → ℕ
ei_class bytes = slice_index bytes 4

-- EI_DATA: 1 is little-endian
abbrev pub ei_data : List ℕ → ℕ
ei_data bytes = slice_index bytes 5

-- 4 is a core
abbrev pub e_type : List ℕ → ℕ
e_type bytes = half_at bytes 16

-- 62 is x86-64
abbrev pub e_machine : List ℕ → ℕ
e_machine bytes = half_at bytes 18

-- the file offset of the first program header
abbrev pub e_phoff : List ℕ → ℕ
e_phoff bytes = xword_at bytes 32

-- the size of one program header
abbrev pub e_phentsize : List ℕ → ℕ
e_phentsize bytes = half_at bytes 54

-- the count of program headers
abbrev pub e_phnum : List ℕ → ℕ
e_phnum bytes = half_at bytes 56

-- the file is a little-endian core of a 64-bit x86 machine
unfoldable pub kind_check : List ℕ → Result (Unit {0}) CoreFault
kind_check bytes =
    if nat_lt (length bytes) 64 then Err Short else
    (if not (starts_with nat_eq bytes magic) then Err NotElf else
    (if not (ei_class bytes == 2) then Err Class else
    (if not (ei_data bytes == 1) then Err Encoding else
    (if not (e_type bytes == 4) then Err FileType else
    (if not (e_machine bytes == 62) then Err FileMachine else Ok tt)))))

-- its program headers lie in the file; a count of 0xFFFF says that their count stands elsewhere
unfoldable pub table_check : List ℕ → Result (Unit {0}) CoreFault
table_check bytes =
    if not (e_phentsize bytes == 56) then Err HeaderSize else
    (if e_phnum bytes == 0xffff then Err HeaderCount else
    (if nat_lt (length bytes) (e_phoff bytes + 56 * e_phnum bytes) then Err HeaderRange else Ok tt))

-- the first rule that the file header breaks
unfoldable pub file_header_check : List ℕ → Result (Unit {0}) CoreFault
file_header_check bytes = do
  _ ← kind_check bytes
  table_check bytes
