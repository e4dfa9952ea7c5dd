-- Each list computes, from all entries of the tables.
use Rattle.std.proofs.Common.{refl}
use Rattle.paging_model.specs.Entries.{entry_of, is_reserved}
use Rattle.paging_model.specs.Memory.{entry_at}
use Rattle.paging_laws.specs.SpaceParts.{found, uses_in, leaves_in}
use Rattle.paging_laws.proofs.examples.whole_spaces.Goals as goal

pub returns : goal.returns
unfolding entry_of is_reserved entry_at found uses_in leaves_in
returns c = record {
  uses = refl;
  leaves = refl;
  upper_uses = refl;
  upper_leaves = refl;
  five_levels = refl;
  last_page = refl;
  own_entry = refl;
  own_page = refl;
}
