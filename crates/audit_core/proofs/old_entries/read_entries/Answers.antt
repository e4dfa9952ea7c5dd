use Rattle.std.proofs.Common.{◌∙◌, refl, arith}
use Rattle.std.proofs.lemmas.List.{length-set}
use Rattle.phys_view.specs.Seen.{memory_of}
use Rattle.audit_core.proofs.OldEntries.{read-more, read-so}
use Rattle.audit_core.proofs.old_entries.read_entries.Goals as goal

pub loop-i-init : goal.loop-i-init
loop-i-init g c = record { read = record { each = λ i below. absurd (omega arith) }; len = refl }

pub loop-i-preserved : goal.loop-i-preserved
loop-i-preserved g c = record {
  read = read-more (memory_of c.args.view.now) c.args.first c.loop-i.i c.loop-i.entries c.get.result
      (omega (arith, c.loop-i.invariant.len, c.loop-i-test.true, c.requires.room)) c.loop-i.invariant.read
      (rw c.entries-read.ensures.value at c.get.ensures);
  len = length-set c.loop-i.entries c.loop-i.i c.get.result ∙ c.loop-i.invariant.len;
}

pub returns-clause-value : goal.returns-clause-value
returns-clause-value g c =
    read-so (memory_of c.args.view.now) c.args.first c.args.count c.loop-i.entries
    (omega (arith, c.loop-i.invariant.len, c.requires.room))
    (record { each = λ j below. c.loop-i.invariant.read.each j (omega (arith, below, c.loop-i-test.false)) })
