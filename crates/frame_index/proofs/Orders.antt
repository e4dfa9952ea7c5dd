-- The orders of places.
use Rattle.std.proofs.Common.{ℕ}
use Rattle.std.proofs.lemmas.Cmp.{nat_cmp_total, then_total, on_total}
use Rattle.std.proofs.lemmas.Map.Lookups.{CmpEqualImpliesEq, exact_pairs, exact_unsigned}
use Rattle.std.specs.Cmp.{IsTotalOrder}
use Rattle.std.specs.Ordering.{nat_cmp}
use Rattle.frame_index.specs.Records.{frame_cmp, place_cmp}

pub place_total : IsTotalOrder place_cmp
place_total = then_total (on_total (λ (p : ℕ × ℕ). p.0) nat_cmp_total) (on_total (λ (p : ℕ × ℕ). p.1) nat_cmp_total)

pub place_exact : CmpEqualImpliesEq place_cmp
place_exact = exact_pairs nat_cmp nat_cmp exact_unsigned exact_unsigned

pub frame_total : IsTotalOrder frame_cmp
frame_total = then_total (on_total (λ (p : ℕ × (ℕ × ℕ)). p.0) nat_cmp_total) (on_total (λ (p : ℕ × (ℕ × ℕ)). p.1) place_total)

pub frame_exact : CmpEqualImpliesEq frame_cmp
frame_exact = exact_pairs nat_cmp place_cmp exact_unsigned place_exact
