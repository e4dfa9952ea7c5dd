use Rattle.std.proofs.Common.{ℕ, ◌<◌, get_or}
use Rattle.paging_model.specs.Entries.{entry_of}
use Rattle.paging_model.specs.Registers.{pge}
use Rattle.history_model.specs.CachedTranslations.{held_of}
use Rattle.stale_audit.specs.SlotEntries.{MakesHarmless}
use Rattle.stale_audit.proofs.harmless_values.all_harmless.Given as goal

-- what is made of the values so far is harmless
abbrev pub invariant-loop-value : goal.invariant-loop-value
invariant-loop-value g l = record {
  harmless : (k : ℕ) (d : ℕ × ℕ × ℕ) → k < l.value-index → MakesHarmless l.point l.range.level l.range.first
      (λ value. held_of (pge l.point.host.regs) l.above (entry_of l.range.level l.settings value)) (get_or l.spans k d).2;
}
