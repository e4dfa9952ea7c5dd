use Rattle.std.proofs.Common.{◌≡◌, ◌&&◌, refl, ap, ◌∙◌, get_or}
use Rattle.std.specs.Prelude.{◌||◌}
use Rattle.std.proofs.lemmas.Result.{on_ok_weaker}
use Rattle.time_sets.specs.Sets.{has_time, is_within}
use Rattle.past_entries.specs.declared.entries.PastEntry.{PastEntry}
use Rattle.past_entries.specs.PastEntries.{IsEntryPlace}
use Rattle.past_entries.proofs.EntryLaws.{push_to, push_of, set_to, set_of, made-there, times-there, part-added, fitting-push, fitting-set}
use Rattle.past_entries.proofs.entries.add_part.Goals as goal

pub returns-clause-made : goal.returns-clause-made
returns-clause-made c e t =
    let is_added = is_within (c.args.first, c.args.last) t && has_time c.args.at.now t in
    let times : has_time c.add_part-2.new.self t ≡ is_added =
    c.in_ok-add_part.ensures t ∙ ap (λ list. has_time list t || is_added) c.new-times.ensures in
    part-added _ _ _ (c.args.first, c.args.last) c.args.at.now t (rw c.in_ok-push.ensures.items (
      push_to c.args.fill is_added e t c.args.entries.now.items (record { fill = c.args.fill; times = c.add_part-2.new.self }) refl times,
      push_of c.args.fill is_added e t c.args.entries.now.items (record { fill = c.args.fill; times = c.add_part-2.new.self }) refl times,
    ))

pub returns-in-Some-clause-made : goal.returns-in-Some-clause-made
returns-in-Some-clause-made c =
    on_ok_weaker c.add_part.result
    (λ added e t.
    let is_added = is_within (c.args.first, c.args.last) t && has_time c.args.at.now t in
    let at : IsEntryPlace c.args.entries.now.items c.in-Some.place c.args.fill = rw c.as_slice.ensures.value at c.in-Some.ensures in
    let there = made-there c.args.entries.now.items c.in-Some.place c.index_mut.result.now at.one c.args.fill at.within at.stands at.same in
    let own : c.index_mut.result.now.fill ≡ c.args.fill = ap (λ (one : PastEntry). one.fill) c.index_mut.ensures.value ∙ there in
    let times : has_time c.add_part.new.self t ≡ (has_time (get_or c.args.entries.now.items c.in-Some.place c.index_mut.result.now).times t || is_added) =
    added t ∙ ap (λ b. b || is_added) (times-there c.args.entries.now.items c.in-Some.place c.index_mut.result.now c.index_mut.result.now t at.within c.index_mut.ensures.value) in
    part-added _ _ _ (c.args.first, c.args.last) c.args.at.now t (
      set_to c.args.fill is_added e t c.args.entries.now.items c.in-Some.place c.index_mut.result.now (record { fill = c.index_mut.result.now.fill; times = c.add_part.new.self }) at.within there own times,
      set_of c.args.fill is_added e t c.args.entries.now.items c.in-Some.place c.index_mut.result.now (record { fill = c.index_mut.result.now.fill; times = c.add_part.new.self }) at.within there own times,
    ))
    c.add_part.ensures

pub returns-clause-fit : goal.returns-clause-fit
returns-clause-fit c level fits are =
    rw c.in_ok-push.ensures.items (fitting-push level c.args.fill fits c.args.entries.now.items (record { fill = c.args.fill; times = c.add_part-2.new.self }) refl are)

pub returns-in-Some-clause-fit : goal.returns-in-Some-clause-fit
returns-in-Some-clause-fit c =
    on_ok_weaker c.add_part.result
    (λ added level fits are.
    let at : IsEntryPlace c.args.entries.now.items c.in-Some.place c.args.fill = rw c.as_slice.ensures.value at c.in-Some.ensures in
    let there = made-there c.args.entries.now.items c.in-Some.place c.index_mut.result.now at.one c.args.fill at.within at.stands at.same in
    let own : c.index_mut.result.now.fill ≡ c.args.fill = ap (λ (one : PastEntry). one.fill) c.index_mut.ensures.value ∙ there in
    fitting-set level c.args.fill fits c.args.entries.now.items c.in-Some.place (record { fill = c.index_mut.result.now.fill; times = c.add_part.new.self }) own are)
    c.add_part.ensures
