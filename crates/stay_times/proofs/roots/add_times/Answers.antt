use Rattle.std.proofs.Common.{◌≡◌, ◌&&◌, false, arith}
use Rattle.std.specs.Prelude.{◌||◌, ◌==◌}
use Rattle.std.specs.BTreeMap.{get}
use Rattle.std.specs.Ordering.{nat_cmp}
use Rattle.std.proofs.lemmas.Grind.{common_steps}
use Rattle.time_sets.specs.Sets.{is_within}
use Rattle.stay_times.specs.Periods.{has_if}
use Rattle.stay_times.proofs.RootLaws.{some-before}
use Rattle.stay_times.proofs.roots.add_times.Goals as goal

pub returns-in-Some-clause-some : goal.returns-in-Some-clause-some
returns-in-Some-clause-some c one times is =
    let old = get nat_cmp c.args.roots.now one in
    let new = get nat_cmp (c.get_mut.follows.lender c.add.new.self) one in
    let members : has_if new c.args.first ≡ (has_if old c.args.first || ((one == c.args.root) && is_within (c.args.first, c.args.last) c.args.first)) = grind (arith, common_steps) in
    let same : (one == c.args.root) ≡ false → new ≡ old = λ e. grind (arith, common_steps, e) in
    some-before old new (one == c.args.root) c.args.first c.args.last times c.requires members same is

pub returns-clause-some : goal.returns-clause-some
returns-clause-some c one times is =
    let old = get nat_cmp c.args.roots.now one in
    let new = get nat_cmp c.insert.new.self one in
    let members : has_if new c.args.first ≡ (has_if old c.args.first || ((one == c.args.root) && is_within (c.args.first, c.args.last) c.args.first)) = grind (arith, common_steps) in
    let same : (one == c.args.root) ≡ false → new ≡ old = λ e. grind (arith, common_steps, e) in
    some-before old new (one == c.args.root) c.args.first c.args.last times c.requires members same is
