use Rattle.std.proofs.Common.{rules, ◌<◌, ◌≤◌, ◌∙◌, arith, length}
use Rattle.cache_rules.proofs.Roots.{IsPlaceOf, insert-read, place-is, set-read}
use Rattle.cache_rules.proofs.homes.set_root.Goals as goal
use Rattle.cache_rules.proofs.homes.set_root.Goals.{else-place-len-via-then-place-len+else-index-pcid, else-place-len-via-else-place-len}

pub returns-then-index-pcid-clause-ok : goal.returns-then-index-pcid-clause-ok
returns-then-index-pcid-clause-ok c =
    let homes = c.args.homes.now.items in
    let within : c.place_of-place.result < length homes = search rules in
    let place : IsPlaceOf homes c.args.pcid c.place_of-place.result =
    place-is c.as_slice.result.now homes c.args.pcid c.place_of-place.result c.as_slice.ensures.value c.place_of-place.ensures.within c.place_of-place.ensures.point in
    set-read homes c.args.pcid c.place_of-place.result c.index.result.now c.args.root place within c.index.ensures c.if-index-pcid.true

pub returns-in_ok-insert-clause-ok : goal.returns-in_ok-insert-clause-ok
returns-in_ok-insert-clause-ok c =
    let homes = c.args.homes.now.items in
    let place : IsPlaceOf homes c.args.pcid c.place_of-place.result =
    place-is c.as_slice.result.now homes c.args.pcid c.place_of-place.result c.as_slice.ensures.value c.place_of-place.ensures.within c.place_of-place.ensures.point in
    c.in_ok-insert.ensures.items ∙ elim c.else-place-len.branch [
      | else-place-len-via-then-place-len+else-index-pcid w ↦
          insert-read homes c.args.pcid c.place_of-place.result w.index.result.now c.args.root place (λ within. (w.index.ensures, w.if-index-pcid.false))
      | else-place-len-via-else-place-len w ↦
          let all : length homes ≤ c.place_of-place.result = search rules in
          insert-read homes c.args.pcid c.place_of-place.result (c.args.pcid, c.args.root) c.args.root place (λ within. absurd (omega (arith, all, within)))
    ]
