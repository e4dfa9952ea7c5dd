use Rattle.std.proofs.Common.{rules, length, List, sym, subst, ◌≡◌}
use Rattle.paging_model.specs.declared.spaces.Area.{Area}
use Rattle.area_list.specs.AreaLists.{IsAppended}
use Rattle.area_list.proofs.LastAreas.{appended-apart, appended-joined, join-of_test, no_join-of_test}
use Rattle.area_list.proofs.appending.append.Goals as goal

pub returns-then-joins_last : goal.returns-then-joins_last
returns-then-joins_last c =
    let all : c.len-end.result ≡ length c.args.areas.now.items = search rules in
    let joins = join-of_test c.as_slice.result.now c.args.areas.now.items c.args.area c.joins_last.result c.as_slice.ensures.value c.if-joins_last.true c.joins_last.ensures in
    rw all
    (appended-joined c.args.areas.now.items c.args.area c.requires.coalesced c.requires.range c.requires.after c.index_mut.result.now
    (rw all at c.index_mut.ensures.value) joins)

pub returns : goal.returns
returns c =
    let not = no_join-of_test c.as_slice.result.now c.args.areas.now.items c.args.area c.joins_last.result c.as_slice.ensures.value c.if-joins_last.false c.joins_last.ensures in
    subst (λ (it : List Area). IsAppended c.args.area c.args.areas.now.items it) (sym c.in_ok-push.ensures.items)
    (appended-apart c.args.areas.now.items c.args.area c.requires.coalesced c.requires.range c.requires.after not)
