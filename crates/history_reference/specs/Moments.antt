-- The moments of a log as the history that they stand for.
use Rattle.std.specs.Prelude.{ℕ, ◌==◌, if◌then◌else◌}
use Rattle.paging_model.specs.RegisterRules.{with_change}
use Rattle.paging_model.specs.declared.registers.Processor.{Processor}
use Rattle.paging_model.specs.declared.registers.RegChange.{RegChange}
use Rattle.history_model.specs.History.{Start, History, begun, next}
use Rattle.paging_reference.specs.Extents.{extents_of}
use Rattle.history_reference.specs.declared.moments.Beginning.{Beginning}
use Rattle.history_reference.specs.declared.moments.Moment.{Moment, First, After'}

abbrev pub beginning_of : Beginning → Start
beginning_of beginning = record {
  extents = extents_of beginning.extents.items;
  stated = beginning.stated;
  machine = beginning.machine;
  processors = beginning.processors.items;
}

abbrev pub history_of : Moment → History
history_of (First beginning) = begun (beginning_of beginning)
history_of (After' place before happened) = next (history_of before) happened

-- a processor, with a change of its registers where it has the number
abbrev pub changed_processor : ℕ → RegChange → Processor → Processor
changed_processor cpu change one = if one.number == cpu then (record one { regs = with_change change one.regs }) else one
