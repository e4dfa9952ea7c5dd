-- The segments that are borrowed are as many as the core's extents.
use Rattle.std.proofs.Common.{◌≡◌, length, sym, ap, ◌∙◌}
use Rattle.std.proofs.lemmas.List.{length-map}
use Rattle.rights_report.proofs.core_lines.write_core_line.Goals as goal

pub returns : goal.returns
returns c =
    let count : length c.args.core.now.segments ≡ length c.as_slice-2.result.now =
    sym (ap length c.as_slice-2.ensures.value) ∙ length-map _ _ in
    cc
