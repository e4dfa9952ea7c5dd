use Rattle.std.proofs.Common.{rules, List, length, ◌≡◌, ◌∙◌}
use Rattle.paging_model.specs.declared.spaces.Region.{Region}
use Rattle.region_map.specs.Places.{JoinsPrevious}
use Rattle.region_map.proofs.AddedRegions.{yes, no, none-after, pushed-last, added-apart, added-previous}
use Rattle.region_map.proofs.adding.add_last.Goals as goal

pub returns-then-joins_previous-clause-ok : goal.returns-then-joins_previous-clause-ok
returns-then-joins_previous-clause-ok c =
    let all : c.len-len.result ≡ length c.args.items.now.items = search rules in
    let previous = yes (λ (it : List Region). JoinsPrevious it c.len-len.result c.args.region) c.as_slice.ensures.value c.if-joins_previous.true c.joins_previous.ensures in
    added-previous c.args.items.now.items c.len-len.result c.args.region c.requires.coalesced c.requires.range c.requires.unmapped (rw all c.requires.place)
    _ c.index_mut.ensures.value previous (none-after c.args.items.now.items c.args.region c.len-len.result all)

pub returns-clause-ok : goal.returns-clause-ok
returns-clause-ok c =
    let all : c.len-len.result ≡ length c.args.items.now.items = search rules in
    let not = no (λ (it : List Region). JoinsPrevious it c.len-len.result c.args.region) c.as_slice.ensures.value c.if-joins_previous.false c.joins_previous.ensures in
    added-apart c.args.items.now.items c.len-len.result c.args.region c.requires.coalesced c.requires.range c.requires.unmapped (rw all c.requires.place)
    _ not (none-after c.args.items.now.items c.args.region c.len-len.result all) (c.in_ok-push.ensures.items ∙ pushed-last c.args.items.now.items c.args.region c.len-len.result all)
