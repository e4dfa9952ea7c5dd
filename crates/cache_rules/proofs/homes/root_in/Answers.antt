use Rattle.std.proofs.Common.{rules, ◌≡◌, ◌<◌, ◌≤◌, ◌∙◌, refl, sym, arith, get_or, length}
use Rattle.cache_rules.proofs.Roots.{IsPlaceOf, no_root-there, no_root-read, place-is, root-read}
use Rattle.cache_rules.proofs.homes.root_in.Goals as goal

pub returns-in_err-home : goal.returns-in_err-home
returns-in_err-home c =
    let all : length c.args.homes.now ≤ c.place_of.result = search rules in
    let place : IsPlaceOf c.args.homes.now c.args.pcid c.place_of.result =
    place-is c.args.homes.now c.args.homes.now c.args.pcid c.place_of.result refl c.place_of.ensures.within c.place_of.ensures.point in
    c.from_residual.ensures
    ∙ sym (no_root-there 0 c.args.homes.now c.args.pcid c.place_of.result c.requires place (λ d within there. absurd (omega (arith, all, within))))

pub returns-then-home-pcid : goal.returns-then-home-pcid
returns-then-home-pcid c =
    let within : c.place_of.result < length c.args.homes.now = search rules in
    let read : c.in_ok-home.home.now ≡ get_or c.args.homes.now c.place_of.result c.in_ok-home.home.now = search rules in
    let place : IsPlaceOf c.args.homes.now c.args.pcid c.place_of.result =
    place-is c.args.homes.now c.args.homes.now c.args.pcid c.place_of.result refl c.place_of.ensures.within c.place_of.ensures.point in
    root-read c.args.homes.now c.args.pcid c.place_of.result c.in_ok-home.home.now place within read c.if-home-pcid.true

pub returns-else-home-pcid : goal.returns-else-home-pcid
returns-else-home-pcid c =
    let within : c.place_of.result < length c.args.homes.now = search rules in
    let read : c.in_ok-home.home.now ≡ get_or c.args.homes.now c.place_of.result c.in_ok-home.home.now = search rules in
    let place : IsPlaceOf c.args.homes.now c.args.pcid c.place_of.result =
    place-is c.args.homes.now c.args.homes.now c.args.pcid c.place_of.result refl c.place_of.ensures.within c.place_of.ensures.point in
    no_root-read c.args.homes.now c.args.pcid c.place_of.result c.in_ok-home.home.now c.requires place within read c.if-home-pcid.false
