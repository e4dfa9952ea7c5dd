use Rattle.std.proofs.Common.{map, ap, ◌∙◌}
use Rattle.std.proofs.lemmas.List.{take_all}
use Rattle.audit_points.specs.Audits.{AreTimesOf}
use Rattle.audit_points.proofs.TimesLaws.{all-more, first_of, pcids-more}
use Rattle.audit_points.proofs.pcid_times.times_of_host.Goals as goal

pub loop-pcid-preserved : goal.loop-pcid-preserved
loop-pcid-preserved c = record {
  pcids = rw c.in_ok-push.ensures.items
      (pcids-more c.loop-pcid.times.items c.in_ok-times_of_pcid.field-0 c.homes-pcid-items.result.now c.loop-pcid.pcid-index c.loop-pcid-test.true
      c.loop-pcid.invariant.pcids c.in_ok-times_of_pcid.ensures.pcid);
  times = rw c.in_ok-push.ensures.items
      (all-more (AreTimesOf c.args.host.now c.args.now) c.loop-pcid.times.items c.in_ok-times_of_pcid.field-0 c.loop-pcid.invariant.times c.in_ok-times_of_pcid.ensures.times);
}

pub returns-clause-pcids : goal.returns-clause-pcids
returns-clause-pcids c = c.loop-pcid.invariant.pcids ∙ (ap (map first_of) (take_all c.loop-pcid.pcid-index c.homes-pcid-items.result.now c.loop-pcid-test.false) ∙ ap (map first_of) c.homes-pcid-items.ensures)
