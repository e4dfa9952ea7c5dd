-- Examples of what a walk down finds, over the small memory of the model's examples: worked out by hand.
use Rattle.std.specs.Prelude.{◌≡◌, ℕ, true, [], ◌∷◌}
use Rattle.paging_model.specs.Memory.{Memory}
use Rattle.paging_model.specs.TableUses.{Leaf}
use Rattle.paging_model.specs.WorkedExamples.{small_memory, all, no_write, with_entry, zeros_below}
use Rattle.paging_model.specs.WorkedSpaces.{small_settings, small_page, small_pages, small_uses}
use Rattle.paging_model.specs.declared.entries.Bits.{Bits}
use Rattle.paging_model.specs.declared.registers.Settings.{Settings}
use Rattle.paging_model.specs.declared.spaces.TableUse.{TableUse}
use Rattle.paging_laws.specs.SpaceParts.{slot_prefix, upper_prefix, uses_in, leaves_in, uses_of, leaves_of}

-- a page of a level, and a table of a level at a frame that serves addresses from a prefix on
abbrev pub worked_leaf : ℕ → ℕ → Leaf
worked_leaf level prefix = record { level = level; prefix = prefix }

abbrev pub worked_use : ℕ → ℕ → ℕ → Bits → TableUse
worked_use level prefix frame bits = record { level = level; prefix = prefix; frame = frame; bits = bits }

-- of the entries of the lowest table
pub record OfPageEntries : Type 0 where
  pub two : leaves_in small_memory small_settings 1 0x4000 0 all 0 4 ≡ small_pages
  pub second : leaves_in small_memory small_settings 1 0x4000 0 all 1 1 ≡ small_page 0x1000 ∷ []
  pub third : leaves_in small_memory small_settings 1 0x4000 0 all 2 1 ≡ []
  pub elsewhere : leaves_in small_memory small_settings 1 0x4000 0xffff800000200000 all 1 2 ≡ worked_leaf 1 0xffff800000201000 ∷ []
  pub no_tables : uses_in small_memory small_settings 1 0x4000 0 all 0 4 ≡ []
  pub unknown : leaves_in small_memory small_settings 1 0x10000 0 all 0 4 ≡ []
  pub no_level : leaves_in small_memory small_settings 0 0x4000 0 all 0 4 ≡ []

-- of the entries of a page directory: its second entry maps a page of 2 MBytes, or has a bit that is reserved there,
-- or references the same table as the first without writes
pub record OfDirectories : Type 0 where
  pub table : uses_in small_memory small_settings 2 0x3000 0 all 0 1 ≡ worked_use 1 0 0x4000 all ∷ []
  pub bits_above : uses_in small_memory small_settings 2 0x3000 0 no_write 0 1 ≡ worked_use 1 0 0x4000 no_write ∷ []
  pub large : leaves_in (with_entry 0x3008 0x4000e7 small_memory) small_settings 2 0x3000 0 all 0 2
      ≡ small_page 0x0 ∷ small_page 0x1000 ∷ worked_leaf 2 0x200000 ∷ []
  pub reserved : leaves_in (with_entry 0x3008 0x4020e7 small_memory) small_settings 2 0x3000 0 all 1 1 ≡ []
  pub twice : uses_in (with_entry 0x3008 0x4005 small_memory) small_settings 2 0x3000 0 all 0 2
      ≡ worked_use 1 0 0x4000 all ∷ worked_use 1 0x200000 0x4000 no_write ∷ []
  pub pages_twice : leaves_in (with_entry 0x3008 0x4005 small_memory) small_settings 2 0x3000 0 all 0 2
      ≡ small_page 0x0 ∷ small_page 0x1000 ∷ small_page 0x200000 ∷ small_page 0x201000 ∷ []

-- where the upper half begins, with four levels and with five
pub record OfHalves (five_levels : Settings) : Type 0 where
  pub upper : slot_prefix 4 (upper_prefix small_settings) 256 ≡ 0xffff800000000000
  pub upper_five : slot_prefix 5 (upper_prefix five_levels) 256 ≡ 0xff00000000000000
  pub last_five : slot_prefix 5 (upper_prefix five_levels) 511 ≡ 0xffff000000000000

-- one table of each level, each with an entry 511 alone
abbrev pub last_page_memory : Memory
last_page_memory =
    with_entry 0x7ff8 0x2007 (with_entry 0x2ff8 0x3007 (with_entry 0x3ff8 0x4007 (with_entry 0x4ff8 0x5007 (zeros_below 0x8000))))

-- of whole spaces: of the small one; with its tables in the upper half too, without writes; under a fifth level;
-- of the last page of all addresses; and of a table that is its own first entry, and so serves each level
pub record OfSpaces : Type 0 where
  pub uses : uses_of small_memory small_settings 0x1000 ≡ small_uses
  pub leaves : leaves_of small_memory small_settings 0x1000 ≡ small_pages
  pub upper_uses : uses_of (with_entry 0x1800 0x2005 small_memory) small_settings 0x1000
      ≡ worked_use 4 0 0x1000 all ∷ worked_use 3 0 0x2000 all ∷ worked_use 2 0 0x3000 all ∷ worked_use 1 0 0x4000 all
      ∷ worked_use 3 0xffff800000000000 0x2000 no_write ∷ worked_use 2 0xffff800000000000 0x3000 no_write
      ∷ worked_use 1 0xffff800000000000 0x4000 no_write ∷ []
  pub upper_leaves : leaves_of (with_entry 0x1800 0x2005 small_memory) small_settings 0x1000
      ≡ small_page 0x0 ∷ small_page 0x1000 ∷ small_page 0xffff800000000000 ∷ small_page 0xffff800000001000 ∷ []
  pub five_levels : uses_of (with_entry 0x7000 0x1007 small_memory) (record small_settings { la57 = true }) 0x7000
      ≡ worked_use 5 0 0x7000 all ∷ small_uses
  pub last_page : leaves_of last_page_memory small_settings 0x7000 ≡ small_page 0xfffffffffffff000 ∷ []
  pub own_entry : uses_of (with_entry 0x1000 0x1007 (zeros_below 0x2000)) small_settings 0x1000
      ≡ worked_use 4 0 0x1000 all ∷ worked_use 3 0 0x1000 all ∷ worked_use 2 0 0x1000 all ∷ worked_use 1 0 0x1000 all ∷ []
  pub own_page : leaves_of (with_entry 0x1000 0x1007 (zeros_below 0x2000)) small_settings 0x1000 ≡ small_page 0x0 ∷ []
