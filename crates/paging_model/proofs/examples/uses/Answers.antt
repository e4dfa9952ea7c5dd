-- Each use is reached entry by entry from the root.
use Rattle.std.proofs.Common.{refl, inl, inr, arith}
use Rattle.paging_model.specs.Entries.{entry_of, is_reserved}
use Rattle.paging_model.specs.Walking.{walk, walk_from}
use Rattle.paging_model.specs.Memory.{entry_at}
use Rattle.paging_model.specs.TableUses.{at_root, below}
use Rattle.paging_model.proofs.examples.uses.Goals as goal

pub returns : goal.returns
unfolding entry_of is_reserved walk walk_from entry_at
returns c = record {
  lowest_table = below (below (below at_root refl) refl) refl;
  read_only_table = below (below (below at_root refl) refl) refl;
  leaf = record {
    prefix = record { below = omega arith; whole = refl; canonical = refl };
    page = _;
    mapped = refl;
    level = refl;
  };
  top = inl (refl, refl);
  lower = inr (omega arith, omega arith, record { below = omega arith; whole = refl; canonical = refl });
  within_a_table = λ h. elim h [
    | inl m ↦ absurd (omega (arith, m.0))
    | inr m ↦ absurd (omega (arith, m.2.whole))
  ];
  twice = λ h. h.0 (inr (inl refl));
}
