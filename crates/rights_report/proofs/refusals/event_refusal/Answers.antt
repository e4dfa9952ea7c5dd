use Rattle.rights_report.proofs.refusals.event_refusal.Goals as goal

pub returns-in-DoubleProcessor-clause-value : goal.returns-in-DoubleProcessor-clause-value
returns-in-DoubleProcessor-clause-value c = rw c.in-DoubleProcessor.is c.refusal_with_processor.ensures
