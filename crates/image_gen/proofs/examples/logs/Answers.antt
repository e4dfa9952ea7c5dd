-- Each line computes.
use Rattle.std.proofs.Common.{refl}
use Rattle.std.specs.Fmt.{digits}
use Rattle.image_gen.proofs.examples.logs.Goals as goal

pub returns : goal.returns
unfolding digits
returns c = record {
  seven = refl;
  six = refl;
  greatest_seed = refl;
  state = refl;
  state_wraps = refl;
  thousandth = refl;
  after_a_thousand = refl;
  second_after = refl;
  middle = refl;
  point = refl;
  list = refl;
  ask = refl;
  write = refl;
  everything = refl;
  no_write = refl;
  no_user = refl;
  absent = refl;
  last_slot = refl;
  last_kind = refl;
}
