use Rattle.std.proofs.Common.{◌≡◌, ◌-◌}
use Rattle.elf_core.specs.FileHeader.{e_phnum}
use Rattle.elf_core.specs.Cores.{blank_core, after_headers, indices_from}
use Rattle.elf_core.proofs.parsing.parse.Given as goal

-- what is left of the headers, from what is known so far, is the whole
abbrev pub invariant-headers : goal.invariant-headers
invariant-headers l = after_headers l.bytes l.core (indices_from l.index (e_phnum l.bytes - l.index)) ≡ after_headers l.bytes blank_core (indices_from 0 (e_phnum l.bytes))
