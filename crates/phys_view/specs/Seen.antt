-- What a view shows: the segments of a core, and the pages that were written to.
use Rattle.std.specs.Prelude.{ℕ, ◌*◌, ◌/◌, ◌%◌, Bool, List, drop, map, slice_index, Option, Some, None, option_map, is_some}
use Rattle.std.specs.FinMap.{find}
use Rattle.std.specs.Ordering.{nat_cmp}
use Rattle.block_map.specs.Blocks.{PageBlocks}
use Rattle.paging_model.specs.Memory.{Memory, Extent, byte_in}

-- the known parts of memory, in order, and the bytes of the pages that were written to, by the pages' numbers
pub record Seen : Type 0 where
  pub extents : List Extent
  pub written : PageBlocks

-- the addresses of the written pages, ascending
abbrev pub written_pages : Seen → List ℕ
written_pages seen = map (λ page. page.0 * 4096) seen.written

-- the bytes of the page of an address, where it was written to
abbrev pub written_page : Seen → ℕ → Option (List ℕ)
written_page seen a = find nat_cmp (a / 4096) seen.written

-- the page of an address was written to
abbrev pub is_written : Seen → ℕ → Bool
is_written seen a = is_some (written_page seen a)

-- a known byte, where its page was written to: the one that stands there now
abbrev pub rewritten : Option (List ℕ) → ℕ → ℕ → ℕ
rewritten None a byte = byte
rewritten (Some bytes) a byte = slice_index bytes (a % 4096)

-- the byte at each address: unknown where no extent covers it, else that of the written page, else that of the first
-- extent in order that covers it
abbrev pub memory_of : Seen → Memory
memory_of seen a = option_map (rewritten (written_page seen a) a) (byte_in seen.extents a)

-- the bytes of a page from an address on
abbrev pub bytes_from : Option (List ℕ) → ℕ → Option (List ℕ)
bytes_from page a = option_map (drop (a % 4096)) page
