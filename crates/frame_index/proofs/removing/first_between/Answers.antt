use Rattle.std.proofs.Common.{ℕ, subst, rules}
use Rattle.std.specs.BTreeMap.Range.{IsRangeOf}
use Rattle.std.specs.declared.ops.Bound.TheVariants.{Included}
use Rattle.frame_index.specs.Records.{place_cmp}
use Rattle.frame_index.proofs.Ranges.{first_found, none_found}
use Rattle.frame_index.proofs.removing.first_between.Goals as goal

pub returns-in-Some-clause-some : goal.returns-in-Some-clause-some
returns-in-Some-clause-some c =
    let range =
    subst (λ (lo : ℕ × ℕ). IsRangeOf place_cmp (Included lo) (Included (c.args.level, c.args.last)) c.args.places.now c.range.result) c.new.ensures.start
    (subst (λ (hi : ℕ × ℕ). IsRangeOf place_cmp (Included c.new.result.start) (Included hi) c.args.places.now c.range.result) c.new.ensures.end
    (c.range.ensures.in_range (search rules))) in
    first_found c.args.first c.args.last c.args.level c.args.places.now c.range.result (c.in-Some.field-0-0.now, c.in-Some.slot.now) _ range c.in-Some.ensures.steps

pub returns-in-None-clause-none : goal.returns-in-None-clause-none
returns-in-None-clause-none c =
    let range =
    subst (λ (lo : ℕ × ℕ). IsRangeOf place_cmp (Included lo) (Included (c.args.level, c.args.last)) c.args.places.now c.range.result) c.new.ensures.start
    (subst (λ (hi : ℕ × ℕ). IsRangeOf place_cmp (Included c.new.result.start) (Included hi) c.args.places.now c.range.result) c.new.ensures.end
    (c.range.ensures.in_range (search rules))) in
    none_found c.args.first c.args.last c.args.level c.args.places.now c.range.result range c.in-None.ensures.steps.0
