-- Two pages are mapped, and each is in the list with its joined bits.
use Rattle.std.proofs.Common.{[], ◌∷◌, refl, ap, arith}
use Rattle.std.specs.Prelude.{map}
use Rattle.std.proofs.lemmas.Bool.{false≢true}
use Rattle.std.proofs.lemmas.Bool.Decides.{nat_tests}
use Rattle.paging_model.specs.Entries.{entry_of, is_reserved}
use Rattle.paging_model.specs.Listings.{stretch_of_region}
use Rattle.paging_model.specs.Memory.{entry_at}
use Rattle.paging_model.specs.Translations.{Protection, raw_target}
use Rattle.paging_model.specs.Walking.{walk, walk_from}
use Rattle.paging_model.specs.WorkedExamples.{small_memory, with_entry, all, no_write}
use Rattle.paging_model.specs.WorkedSpaces.{mapped_region, small_settings}
use Rattle.paging_model.proofs.SmallListings.{listed_pages}
use Rattle.paging_model.proofs.SmallMemory.{small_tables, other_tables}
use Rattle.paging_model.proofs.examples.regions.Goals as goal

pub returns : goal.returns
unfolding entry_of is_reserved walk walk_from entry_at
returns c = record {
  two = record {
    stretches = (
      record { begins = refl; ends = refl; some = omega arith; below = omega arith; canonical = λ x from to. grind (arith, nat_tests) },
      (record { begins = refl; ends = refl; some = omega arith; below = omega arith; canonical = λ x from to. grind (arith, nat_tests) }, tt),
    );
    apart = (omega arith, (λ one. absurd (false≢true (ap (λ (kind : Protection). kind.bits.write) one.same))), tt);
    pages =
        listed_pages small_memory small_tables (raw_target small_memory small_settings 0x1000) (λ x none. none)
        (map stretch_of_region (mapped_region 0x0 0xfff 0x5000 all ∷ mapped_region 0x1000 0x1fff 0x6000 no_write ∷ [])) (omega arith, (omega arith, tt)) refl refl;
  };
  one = record {
    stretches = (record { begins = refl; ends = refl; some = omega arith; below = omega arith; canonical = λ x from to. grind (arith, nat_tests) }, tt);
    apart = tt;
    pages =
        listed_pages (with_entry 0x1000 0x2005 small_memory) other_tables (raw_target (with_entry 0x1000 0x2005 small_memory) small_settings 0x1000) (λ x none. none)
        (map stretch_of_region (mapped_region 0x0 0x1fff 0x5000 no_write ∷ [])) (omega arith, tt) refl refl;
  };
}
