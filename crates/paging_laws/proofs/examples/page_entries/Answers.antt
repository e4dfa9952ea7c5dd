-- Each list computes.
use Rattle.std.proofs.Common.{refl}
use Rattle.paging_model.specs.Entries.{entry_of, is_reserved}
use Rattle.paging_model.specs.Memory.{entry_at}
use Rattle.paging_laws.specs.SpaceParts.{found, uses_in, leaves_in}
use Rattle.paging_laws.proofs.examples.page_entries.Goals as goal

pub returns : goal.returns
unfolding entry_of is_reserved entry_at found uses_in leaves_in
returns c = record {
  two = refl;
  second = refl;
  third = refl;
  elsewhere = refl;
  no_tables = refl;
  unknown = refl;
  no_level = refl;
}
