-- Each test computes.
use Rattle.std.proofs.Common.{refl, arith}
use Rattle.std.proofs.lemmas.Bool.{false≢true}
use Rattle.paging_model.proofs.examples.addresses.Goals as goal

pub returns : goal.returns
returns c = record {
  low_end = refl;
  hole = refl;
  high_end = refl;
  five_levels = refl;
  five_levels_hole = refl;
  index_1 = refl;
  index_5 = refl;
  last_page = record { below = omega arith; aligned = refl; canonical = refl };
  page_of_the_hole = λ page. false≢true page.canonical;
  past_the_last_page = λ page. absurd (omega (arith, page.below));
  within_a_page = λ page. absurd (omega (arith, page.aligned));
}
