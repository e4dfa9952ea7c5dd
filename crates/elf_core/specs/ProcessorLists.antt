-- Processors by their numbers.
use Rattle.std.specs.Prelude.{ℕ, ◌==◌, Bool}
use Rattle.paging_model.specs.declared.registers.Processor.{Processor}

abbrev pub has_number : ℕ → Processor → Bool
has_number number processor = processor.number == number
