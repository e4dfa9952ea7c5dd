use Rattle.std.proofs.Common.{arith}
use Rattle.paging_model.specs.Entries.{entry_of}
use Rattle.paging_model.specs.Registers.{pge}
use Rattle.history_model.specs.CachedTranslations.{held_of}
use Rattle.stale_audit.proofs.EntryLaws.{all-more}
use Rattle.stale_audit.proofs.harmless_values.all_harmless.Goals as goal

pub loop-value-preserved : goal.loop-value-preserved
loop-value-preserved g c = record {
  harmless = all-more c.args.point.now c.args.range.level c.args.range.first
      (λ value. held_of (pge c.args.point.now.host.regs) c.args.above (entry_of c.args.range.level c.args.settings.now value))
      c.args.spans.now c.loop-value.value-index (0, 0, 0) c.loop-value-test.true c.loop-value.invariant.harmless
      (c.is_harmless.ensures c.if-not-is_harmless.false);
}

pub returns : goal.returns
returns g c = λ is k d h. c.loop-value.invariant.harmless k d (let end = c.loop-value-test.false in omega (arith, end, h))
