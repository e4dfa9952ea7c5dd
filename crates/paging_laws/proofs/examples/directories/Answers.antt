-- Each list computes, from all entries of the tables.
use Rattle.std.proofs.Common.{refl}
use Rattle.paging_model.specs.Entries.{entry_of, is_reserved}
use Rattle.paging_model.specs.Memory.{entry_at}
use Rattle.paging_laws.specs.SpaceParts.{found, uses_in, leaves_in}
use Rattle.paging_laws.proofs.examples.directories.Goals as goal

pub returns : goal.returns
unfolding entry_of is_reserved entry_at found uses_in leaves_in
returns c = record {
  table = refl;
  bits_above = refl;
  large = refl;
  reserved = refl;
  twice = refl;
  pages_twice = refl;
}
