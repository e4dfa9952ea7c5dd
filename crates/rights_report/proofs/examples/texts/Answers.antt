-- Each text computes.
use Rattle.std.proofs.Common.{refl}
use Rattle.std.specs.Fmt.{digits}
use Rattle.rights_report.proofs.examples.texts.Goals as goal

pub returns : goal.returns
unfolding digits
returns c = record {
  granted = refl;
  denied = refl;
  not_canonical = refl;
  rule = refl;
  areas = refl;
  zero = refl;
  too_large = refl;
  yes = refl;
  no = refl;
  nothing = refl;
  refused = refl;
  too_long = refl;
  stranger = refl;
  illegal = refl;
  crosses = refl;
  idle = refl;
  mixed = refl;
  core = λ _ _. refl;
  without_processors = λ _ _. refl;
}
