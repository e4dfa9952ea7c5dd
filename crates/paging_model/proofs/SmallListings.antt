-- What small tables map is listed where a list of ranges below 0x2000 has it at the pages 0x0 and 0x1000.
use Rattle.std.proofs.Common.{◌≡◌, ℕ, ◌<◌, ◌≤◌, ◌&&◌, false, Option, Some, None, List, [], ◌∷◌, refl, sym, ap, ◌∙◌, subst, arith}
use Rattle.std.specs.Prelude.{map, nat_le}
use Rattle.std.proofs.lemmas.Bool.Decides.{nat_tests}
use Rattle.paging_model.specs.Memory.{Memory}
use Rattle.paging_model.specs.LinearAddress.{IsPage}
use Rattle.paging_model.specs.Listings.{Stretch, AreAreas, stretch_of_area, target_in}
use Rattle.paging_model.specs.Translations.{Target, granted_target, present_target, raw_target}
use Rattle.paging_model.specs.WorkedExamples.{small_regs}
use Rattle.paging_model.specs.WorkedSpaces.{small_areas, small_machine, small_settings}
use Rattle.paging_model.specs.declared.entries.Bits.{Bits}
use Rattle.paging_model.specs.declared.entries.Entry.{Entry}
use Rattle.paging_model.proofs.SmallTables.{HasSmallTables, past_pointers, past_directory, past_pages, past_page, in_first, in_second, place, first_address, second_address, past_pointers-target, past_directory-target, past_pages-target, past_page-target}

after : (first last page : ℕ) → last < page → (nat_le first page && nat_le page last) ≡ false
after first last page past = grind (arith, nat_tests)

module _ {Kind : Type 0} where
  -- each range ends below 0x2000
  abbrev pub AreLow : List (Stretch Kind) → Type 0
  AreLow [] = Unit {0}
  AreLow (one ∷ rest) = (one.last < 0x2000) × AreLow rest

  target_in-past : (list : List (Stretch Kind)) → AreLow list → (page : ℕ) → 0x2000 ≤ page → target_in list page ≡ None
  target_in-past [] low page past = refl
  target_in-past (one ∷ rest) low page past =
      let not_in : (nat_le one.first page && nat_le page one.last) ≡ false = after one.first one.last page (omega (arith, low.0)) in
      rw not_in (target_in-past rest low.1 page past)

  pub listed_pages : (memory : Memory) {upper : Bits} {first second : Option Entry} → HasSmallTables memory upper first second
      → (target : ℕ → Option (Target Kind)) → ((x : ℕ) → raw_target memory small_settings 0x1000 x ≡ None → target x ≡ None)
      → (list : List (Stretch Kind)) → AreLow list → target_in list 0 ≡ target 0 → target_in list 0x1000 ≡ target 0x1000
      → (page : ℕ) → IsPage false page → target_in list page ≡ target page
  listed_pages memory tables target none list low at_0 at_1000 page is_page =
      elim (place page) [
        | past_pointers some ↦ target_in-past list low page (omega arith) ∙ sym (none page (past_pointers-target tables page some))
        | past_directory four some ↦ target_in-past list low page (omega arith) ∙ sym (none page (past_directory-target tables page four some))
        | past_pages four three some ↦ target_in-past list low page (omega arith) ∙ sym (none page (past_pages-target tables page four three some))
        | past_page four three two more ↦ target_in-past list low page (omega arith) ∙ sym (none page (past_page-target tables page four three two more))
        | in_first four three two one ↦
            subst (λ x. target_in list x ≡ target x) (sym (first_address page is_page four three two one)) at_0
        | in_second four three two one ↦
            subst (λ x. target_in list x ≡ target x) (sym (second_address page is_page four three two one)) at_1000
      ]

-- the two areas are all that is mapped, where each page is mapped as they say
pub two_areas : (memory : Memory) {upper : Bits} {first second : Option Entry} → HasSmallTables memory upper first second
    → Some (record { frame = 0x5000; kind = 255 }) ≡ present_target memory small_machine small_regs 0x1000 0
    → Some (record { frame = 0x6000; kind = 109 }) ≡ present_target memory small_machine small_regs 0x1000 0x1000
    → AreAreas memory small_machine small_regs small_areas
two_areas memory tables at_0 at_1000 = record {
  stretches = (
    record { begins = refl; ends = refl; some = omega arith; below = omega arith; canonical = λ x from to. grind (arith, nat_tests) },
    (record { begins = refl; ends = refl; some = omega arith; below = omega arith; canonical = λ x from to. grind (arith, nat_tests) }, tt),
  );
  apart = (omega arith, (λ one. absurd (omega (arith, one.same))), tt);
  pages =
      listed_pages memory tables (present_target memory small_machine small_regs 0x1000) (λ x none. ap (granted_target small_regs x) none)
      (map stretch_of_area small_areas) (omega arith, (omega arith, tt)) at_0 at_1000;
}
