-- How many entries of a table map a page, one entry after another.
use Rattle.std.proofs.Common.{◌≡◌, ℕ, zero, suc, ◌+◌, ◌-◌, ◌≤◌, Option, Some, None, ap, arith}
use Rattle.paging_model.specs.Memory.{Memory}
use Rattle.paging_model.specs.declared.entries.Entry.{Entry}
use Rattle.paging_model.specs.declared.entries.Entry.TheVariants as entry
use Rattle.paging_model.specs.declared.registers.Settings.{Settings}
use Rattle.paging_laws.specs.SpaceParts.{slot_read}
use Rattle.page_laws.proofs.PageCounts.{pages_in-append, pages_in-more}
use Rattle.kept_laws.specs.PageNumbers.{pages_in, pages_of_entry}
use Rattle.kept_laws.specs.declared.patches.Patch.{Patch}
use Rattle.std.specs.Prelude.{Bool, if◌then◌else◌}

pub one-at_most : (read : Option Entry) → pages_of_entry read ≤ 1
one-at_most None = omega arith
one-at_most (Some entry.Absent) = omega arith
one-at_most (Some entry.Reserved) = omega arith
one-at_most (Some (entry.Table frame bits)) = omega arith
one-at_most (Some (entry.Leaf frame bits key global)) = omega arith

module _ (memory : Memory) (settings : Settings) (level table : ℕ) where
  -- no more than there are entries
  pub pages-at_most : (from count : ℕ) → pages_in memory settings level table from count ≤ count
  unfolding pages_in
  pages-at_most from zero = omega arith
  pages-at_most from (suc count) =
      omega (arith, pages-at_most from count, one-at_most (slot_read memory settings level table (from + count)))

  -- some entries of a table map no more pages than all of them
  pub pages-of_part : (from count : ℕ) → from + count ≤ 512 → pages_in memory settings level table from count ≤ pages_in memory settings level table 0 512
  pages-of_part from count within =
      let first = pages_in-append memory settings level table 0 from count in
      let all = pages_in-append memory settings level table 0 (from + count) (512 - (from + count)) in
      let whole : from + count + (512 - (from + count)) ≡ 512 = omega arith in
      let same = ap (λ (n : ℕ). pages_in memory settings level table 0 n) whole in
      let none : 0 + from ≡ from = omega arith in
      let here = ap (λ (n : ℕ). pages_in memory settings level table n count) none in
      omega (arith, first, all, same, here)

pub plus-nothing : (n : ℕ) → n ≡ n + 0
plus-nothing n = omega arith

-- one entry of a patch more
pub page-more : (memory : Memory) (settings : Settings) (patch : Patch) (k pages next : ℕ) (maps : Bool)
    → pages ≡ pages_in memory settings patch.table.level patch.table.frame patch.from k
    → pages_of_entry (slot_read memory settings patch.table.level patch.table.frame (patch.from + k)) ≡ (if maps then 1 else 0)
    → next ≡ pages + (if maps then 1 else 0)
    → next ≡ pages_in memory settings patch.table.level patch.table.frame patch.from (k + 1)
page-more memory settings patch k pages next maps before here is =
    omega (arith, before, here, is, pages_in-more memory settings patch.table.level patch.table.frame patch.from k)
