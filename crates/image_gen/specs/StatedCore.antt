-- What the generated core states. (Our own format; docs/FORMATS.md.)
use Rattle.std.specs.Prelude.{ℕ, [], ◌∷◌, true, false}
use Rattle.paging_model.specs.Registers.{machine_of}
use Rattle.paging_model.specs.declared.registers.Processor.{Processor}
use Rattle.paging_model.specs.declared.registers.Regs.{Regs}
use Rattle.elf_core.specs.declared.core_file.Core.{Core}
use Rattle.image_gen.specs.GeneratedTables.{root}
use Rattle.image_gen.specs.GeneratedCore.{memory_bytes}

-- paging of four levels without PCIDs, and of RFLAGS no AC
abbrev pub stated_regs : Regs
stated_regs = record { cr0 = 0x80010001; cr3 = root; cr4 = 0x20; efer = 0xd00; ac = false; pkru = 0; pkrs = 0 }

-- a processor, by its number
abbrev pub stated_processor : ℕ → Processor
stated_processor number = record { number = number; regs = stated_regs }

-- one segment from physical address 0 on, the machine, and processors 0 and 1
abbrev pub stated_core : Core
stated_core = record {
  segments = record { start = 0; bytes = memory_bytes } ∷ [];
  stated = true;
  machine = machine_of 40 true;
  processors = stated_processor 0 ∷ stated_processor 1 ∷ [];
}
