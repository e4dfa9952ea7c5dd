use Rattle.std.proofs.Common.{◌≡◌, map, take}
use Rattle.std.specs.List.{All}
use Rattle.audit_points.specs.Audits.{AreTimesOf, pcids_timed}
use Rattle.audit_points.proofs.TimesLaws.{first_of}
use Rattle.audit_points.proofs.pcid_times.times_of_host.Given as goal

-- the PCIDs so far have their times
abbrev pub invariant-loop-pcid : goal.invariant-loop-pcid
invariant-loop-pcid l = record {
  pcids : pcids_timed l.times.items ≡ map first_of (take l.pcid-index l.pcid-items);
  times : All (AreTimesOf l.host l.now) l.times.items;
}
