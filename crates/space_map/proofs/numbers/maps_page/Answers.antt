use Rattle.std.proofs.Common.{arith}
use Rattle.std.specs.Prelude.{◌==◌}
use Rattle.std.proofs.lemmas.Bool.Decides.{nat_tests}
use Rattle.region_map.specs.Coalesced.{target_at}
use Rattle.space_map.proofs.MapChecks.{by-unmapped, by-mapped, by-lowest}
use Rattle.space_map.proofs.numbers.maps_page.Goals as goal

pub returns-else-level-eq1 : goal.returns-else-level-eq1
returns-else-level-eq1 c written memory settings root is_patch is_map all =
    by-mapped written memory settings root c.args.patch.now (target_at c.args.regions.now) c.args.index.now c.args.i c.first_of-first.result
    c.requires.shape c.requires.from c.requires.before c.first_of-first.ensures.value is_patch is_map all
    _ c.find.result (c.if-is_some.ensures) c.find.ensures.target c.find-else-level-eq1.result c.is_none.result c.is_none.ensures c.find-else-level-eq1.ensures

pub returns-else-is_some : goal.returns-else-is_some
returns-else-is_some c written memory settings root is_patch is_map all =
    by-unmapped written memory settings root c.args.patch.now (target_at c.args.regions.now) c.args.index.now c.args.i c.first_of-first.result
    c.requires.shape c.requires.from c.requires.before c.first_of-first.ensures.value is_patch is_map all
    _ c.find.result c.is_some.result c.if-is_some.false c.if-is_some.ensures c.find.ensures.target

pub returns-then-level-eq1 : goal.returns-then-level-eq1
returns-then-level-eq1 c written memory settings root is_patch is_map all =
    by-lowest written memory settings root c.args.patch.now (target_at c.args.regions.now) c.args.index.now c.args.i c.first_of-first.result
    c.requires.shape c.requires.from c.requires.before c.first_of-first.ensures.value is_patch is_map all
    _ c.find.result (c.args.patch.now.table.level == 1) (grind (arith, nat_tests, c.if-level-eq1.true)) c.if-is_some.ensures c.find.ensures.target c.if-level-eq1.true
