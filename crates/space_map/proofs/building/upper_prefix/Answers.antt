use Rattle.std.proofs.Common.{◌≡◌, ℕ, ◌-◌, ◌*◌, ◌^◌, ap, ◌∙◌, arith}
use Rattle.std.specs.Prelude.{◌%◌}
use Rattle.paging_model.specs.LinearAddress.{span}
use Rattle.space_map.proofs.Spans.{upper-whole}
use Rattle.space_map.proofs.building.upper_prefix.Goals as goal

pub returns-clause-whole : goal.returns-clause-whole
returns-clause-whole c =
    let is : 2 ^ 64 - 1 - (512 * c.span.result - 1) ≡ 2 ^ 64 - 512 * span c.args.level = omega arith in
    ap (λ (n : ℕ). n % (512 * span c.args.level)) is ∙ upper-whole c.args.level c.requires.least c.requires.most
