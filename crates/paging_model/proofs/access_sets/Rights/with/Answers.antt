use Rattle.std.proofs.Common.{◌≢◌, sym, refl, ◌∙◌, w8}
use Rattle.std.proofs.lemmas.Nat.Bits.{bit_at_set_same, bit_at_set_other}
use Rattle.paging_model.proofs.SetBits.{same_access_bit}
use Rattle.paging_model.specs.AccessSets.{access_bit}
use Rattle.paging_model.proofs.access_sets.Rights.with.Goals as goal

pub returns-clause-added : goal.returns-clause-added
returns-clause-added c =
    rw (sym c.bit_index.ensures.value, bit_at_set_same w8 c.self.inside.number c.bit_index.result c.bit_index.ensures.below) refl

pub returns-clause-others : goal.returns-clause-others
returns-clause-others c other differs =
    let apart : access_bit other ≢ c.bit_index.result = λ e. differs (same_access_bit other c.args.access (e ∙ c.bit_index.ensures.value)) in
    rw (sym c.self.view_is, bit_at_set_other w8 c.self.inside.number c.bit_index.result c.bit_index.ensures.below (access_bit other) apart) refl
