use Rattle.plan_laws.proofs.WrittenEntries.{entries-are_written}
use Rattle.plan_laws.proofs.plans.entries_of_a_plan_are_written.Goals as goal

pub returns : goal.returns
returns c one other key patches frame first last tables order short whole root_whole alike all plan =
    entries-are_written one other key patches frame first last tables order short whole root_whole alike all plan
