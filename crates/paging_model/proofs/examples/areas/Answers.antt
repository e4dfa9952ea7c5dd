-- Two pages are mapped, and each is in the list as its translation says.
use Rattle.std.proofs.Common.{[], ◌∷◌, refl, ap, arith}
use Rattle.std.specs.Prelude.{map}
use Rattle.std.proofs.lemmas.Bool.Decides.{nat_tests}
use Rattle.paging_model.specs.AccessRights.{is_granted}
use Rattle.paging_model.specs.Entries.{entry_of, is_reserved}
use Rattle.paging_model.specs.Listings.{stretch_of_area}
use Rattle.paging_model.specs.Memory.{entry_at}
use Rattle.paging_model.specs.Pointers.{aim_of}
use Rattle.paging_model.specs.Translations.{granted_target, present_target}
use Rattle.paging_model.specs.Walking.{walk, walk_from}
use Rattle.paging_model.specs.WorkedExamples.{small_memory, small_regs, with_entry}
use Rattle.paging_model.specs.WorkedSpaces.{mapped_area, small_machine}
use Rattle.paging_model.proofs.SmallListings.{listed_pages, two_areas}
use Rattle.paging_model.proofs.SmallMemory.{small_tables, other_tables}
use Rattle.paging_model.proofs.examples.areas.Goals as goal

pub returns : goal.returns
unfolding entry_of is_reserved walk walk_from entry_at is_granted aim_of
returns c = record {
  two = two_areas small_memory small_tables refl refl;
  one = record {
    stretches = (record { begins = refl; ends = refl; some = omega arith; below = omega arith; canonical = λ x from to. grind (arith, nat_tests) }, tt);
    apart = tt;
    pages =
        listed_pages (with_entry 0x1000 0x2005 small_memory) other_tables (present_target (with_entry 0x1000 0x2005 small_memory) small_machine small_regs 0x1000)
        (λ x none. ap (granted_target small_regs x) none) (map stretch_of_area (mapped_area 0x0 0x1fff 0x5000 109 ∷ [])) (omega arith, tt) refl refl;
  };
}
