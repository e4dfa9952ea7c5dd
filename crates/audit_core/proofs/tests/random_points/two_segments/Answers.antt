use Rattle.std.proofs.Common.{sym, arith}
use Rattle.std.proofs.lemmas.List.{length-take-le}
use Rattle.audit_core.proofs.tests.random_points.two_segments.Goals as goal

pub slice_bounds-push-end : goal.slice_bounds-push-end
slice_bounds-push-end c = sym (length-take-le 8196 c.args.bytes.now (omega (arith, c.requires)))
