use Rattle.std.proofs.Common.{rules, ◌≡◌, sym, subst, List}
use Rattle.std.proofs.lemmas.Result.{on_ok_weaker}
use Rattle.paging_model.specs.declared.spaces.Region.{Region}
use Rattle.region_map.specs.Coalesced.{AreCoalesced, IsCopied, stretches, target_at}
use Rattle.region_map.proofs.Replaced.{on_either, outside-coalesced, put-edited}
use Rattle.region_map.proofs.regions.Regions.replace.Goals as goal

pub replacement-requires-clause-outside : goal.replacement-requires-clause-outside
replacement-requires-clause-outside c =
    let one : c.deref.result.now ≡ c.self.inside.items.items = search rules in
    let shown : c.deref-2.result.now ≡ c.self.inside.items.items = search rules in
    outside-coalesced c.self.inside.items.items c.deref.result.now c.deref-2.result.now c.args.first c.args.last c.around-from.result.0 c.around-from.result.1
    c.self.invariant one shown c.around-from.ensures

pub invariant_of-self : goal.invariant_of-self
invariant_of-self c =
    let one : c.deref.result.now ≡ c.self.inside.items.items = search rules in
    let shown : c.deref-2.result.now ≡ c.self.inside.items.items = search rules in
    on_either c.put.result
    (λ (is : c.put.new.items.items ≡ _).
    (put-edited c.self.inside.items.items c.deref.result.now c.deref-2.result.now c.args.first c.args.last c.around-from.result.0 c.around-from.result.1
    c.self.invariant one shown c.around-from.ensures
    c.list.result.now c.args.other.now c.in_ok-part.part c.list-2.result.now c.put.new.items.items
    c.list.ensures.value c.list-2.ensures.value c.list-2.ensures.coalesced c.in_ok-part.ensures is).coalesced)
    (λ (is : c.put.new.items.items ≡ _). subst (λ (it : List Region). AreCoalesced (stretches it)) (sym is) c.self.invariant)
    c.put.ensures.ok c.put.ensures.err

pub returns-clause-ok : goal.returns-clause-ok
returns-clause-ok c =
    let one : c.deref.result.now ≡ c.self.inside.items.items = search rules in
    let shown : c.deref-2.result.now ≡ c.self.inside.items.items = search rules in
    let was : c.self.inside.items.items ≡ c.args.self.now = search rules in
    on_ok_weaker c.put.result
    (λ (is : c.put.new.items.items ≡ _).
    subst (λ (it : List Region). IsCopied c.args.first c.args.last (target_at c.args.other.now) (target_at it) (target_at c.put.new.items.items)) was
    (put-edited c.self.inside.items.items c.deref.result.now c.deref-2.result.now c.args.first c.args.last c.around-from.result.0 c.around-from.result.1
    c.self.invariant one shown c.around-from.ensures
    c.list.result.now c.args.other.now c.in_ok-part.part c.list-2.result.now c.put.new.items.items
    c.list.ensures.value c.list-2.ensures.value c.list-2.ensures.coalesced c.in_ok-part.ensures is).copied)
    c.put.ensures.ok
