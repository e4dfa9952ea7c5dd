-- A space has as many pages as the entries of all its tables map, as each use has them.
use Rattle.std.proofs.Common.{◌≡◌, ℕ, ◌≤◌, Bool, true, false, List, length, ◌∙◌, arith, length-append}
use Rattle.std.specs.Prelude.{if◌then◌else◌}
use Rattle.paging_model.specs.Counting.{AreAll, Count}
use Rattle.paging_model.specs.Memory.{Memory}
use Rattle.paging_model.specs.Entries.{root_bits}
use Rattle.paging_model.specs.TableUses.{IsUse, IsLeaf}
use Rattle.paging_model.specs.Walking.{top_level}
use Rattle.paging_model.specs.declared.registers.Settings.{Settings}
use Rattle.paging_model.specs.declared.spaces.TableUse.{TableUse}
use Rattle.paging_laws.specs.SpaceParts.{upper_prefix, uses_in, leaves_in, uses_of, leaves_of}
use Rattle.paging_laws.proofs.WholeSpaces.{all-uses, all-leaves}
use Rattle.kept_laws.specs.PageNumbers.{page_numbers}
use Rattle.page_laws.proofs.PageCounts.{high-none, page_numbers-append, leaves-by_numbers}
use Rattle.page_laws.proofs.Sums.{same_sum}

high_top : (five_levels : Bool) → 4 ≤ (if five_levels then 5 else 4)
high_top true = omega arith
high_top false = omega arith

pub top_is_high : (settings : Settings) → 4 ≤ top_level settings
top_is_high settings = high_top settings.la57

module _ (memory : Memory) (settings : Settings) (root : ℕ) where
  -- of the uses and the pages that a walk down finds
  found-by_numbers : length (leaves_of memory settings root) ≡ page_numbers memory settings (uses_of memory settings root)
  found-by_numbers =
      let high = top_is_high settings in
      let low_leaves = leaves-by_numbers memory settings (top_level settings) root 0 root_bits 0 256 in
      let high_leaves = leaves-by_numbers memory settings (top_level settings) root (upper_prefix settings) root_bits 256 256 in
      let none = high-none memory settings (top_level settings) root 0 512 high in
      let none_low = high-none memory settings (top_level settings) root 0 256 high in
      let none_high = high-none memory settings (top_level settings) root 256 256 high in
      let leaves = length-append (leaves_in memory settings (top_level settings) root 0 root_bits 0 256)
      (leaves_in memory settings (top_level settings) root (upper_prefix settings) root_bits 256 256) in
      let uses = page_numbers-append memory settings (uses_in memory settings (top_level settings) root 0 root_bits 0 256)
      (uses_in memory settings (top_level settings) root (upper_prefix settings) root_bits 256 256) in
      omega arith

  pub all-by_numbers : (uses : List TableUse) → AreAll (IsUse memory settings root) uses
      → Count (IsLeaf memory settings root) (page_numbers memory settings uses)
  all-by_numbers uses all =
      let found = all-uses memory settings root in
      record {
        things = leaves_of memory settings root;
        all = all-leaves memory settings root;
        many =
            found-by_numbers
            ∙ same_sum memory settings (uses_of memory settings root) uses found.some.distinct all.some.distinct
            (λ x is. all.all x (found.some.have x is)) (λ x is. found.all x (all.some.have x is));
      }
