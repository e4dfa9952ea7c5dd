use Rattle.std.proofs.Common.{ℕ, ap, ◌≡◌, ◌*◌, ◌%◌, ◌≤◌, arith}
use Rattle.std.proofs.Math.Nat.{mul-le-mul_right, mul-mod_left}
use Rattle.paging_model.specs.LinearAddress.{span}
use Rattle.space_map.proofs.PatchPasses.{patch-ends}
use Rattle.space_map.proofs.Spans.{pages_whole}
use Rattle.space_map.proofs.patched.patch_last.Goals as goal

pub overflow_add-result : goal.overflow_add-result
overflow_add-result c =
    let ends = patch-ends c.args.patch.now c.requires.shape in
    let long : c.args.patch.now.count * c.span.result ≡ c.args.patch.now.count * span c.args.patch.now.table.level =
    ap (λ (w : ℕ). c.args.patch.now.count * w) c.span.ensures.value in
    let some : 1 * c.span.result ≤ c.args.patch.now.count * c.span.result = mul-le-mul_right c.span.result c.requires.shape.some in
    omega (arith, c.patch_first.ensures.value, ends, long, some, c.span.ensures.least)

pub returns-clause-whole : goal.returns-clause-whole
returns-clause-whole c =
    let pages : c.args.patch.now.count * c.span.result % 4096 ≡ 0 =
    pages_whole c.span.result (c.args.patch.now.count * c.span.result) c.span.ensures.whole (mul-mod_left c.args.patch.now.count c.span.result) in
    let some : 1 * c.span.result ≤ c.args.patch.now.count * c.span.result = mul-le-mul_right c.span.result c.requires.shape.some in
    omega (arith, c.patch_first.ensures.whole, pages, some, c.span.ensures.least)
