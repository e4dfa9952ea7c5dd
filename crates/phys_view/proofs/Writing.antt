-- What comes of a write to a view, from what code finds out and does: a page gets a block, or its block is changed.
use Rattle.std.proofs.Common.{◌≡◌, ℕ, ◌+◌, ◌-◌, ◌/◌, ◌*◌, ◌%◌, ◌<◌, ◌≤◌, List, length, map, true, false, Option, Some, None, is_some, refl, ◌∙◌, ap, arith}
use Rattle.std.specs.FinMap.{put}
use Rattle.std.specs.Ordering.{nat_cmp}
use Rattle.block_pool.specs.Blocks.{Counts, block_with}
use Rattle.history_model.specs.History.{page_of, with_bytes, with_number}
use Rattle.history_model.specs.Refusals.{first_unknown, page_limit}
use Rattle.history_model.specs.declared.faults.StepFault.TheVariants as fault
use Rattle.phys_view.specs.Seen.{Seen, is_written, memory_of, written_page}
use Rattle.phys_view.specs.Writes.{HasKnown, RunsOutAtWrite, WritesBytes, refusal_of_write}
use Rattle.phys_view.proofs.Refusing.{refused-full, unrefused-room, unrefused-written}
use Rattle.phys_view.proofs.WrittenPages.{find-put, length-put, pages-put}
use Rattle.phys_view.proofs.WrittenBytes.{ShowsPage, memory-written, shows-unwritten, shows-written}

-- so many bytes, all known, that stand in one page
pub record InPage (seen : Seen) (at n : ℕ) : Type 0 where
  pub known : first_unknown (memory_of seen) at n ≡ None
  pub some : 1 ≤ n
  pub within : at % 4096 + n ≤ 4096

-- the page is one too many
pub full-refused : (seen : Seen) (at n : ℕ) → InPage seen at n → written_page seen at ≡ None → page_limit ≤ length seen.written → refusal_of_write seen at n ≡ Some fault.OverlayFull
full-refused seen at n in_page absent full = refused-full seen at n in_page.known in_page.some in_page.within (ap is_some absent) full

-- there is room for the page, and its block is wanted
pub room-unrefused : (seen : Seen) (at n : ℕ) → InPage seen at n → written_page seen at ≡ None → length seen.written < page_limit → RunsOutAtWrite seen at n
room-unrefused seen at n in_page absent room =
    let unwritten : is_written seen at ≡ false = ap is_some absent in
    record { unrefused = unrefused-room seen at n in_page.known in_page.some in_page.within unwritten room; unwritten = unwritten }

-- the page's block is now this one, with the bytes in it
memory-put : (old new : Seen) (at : ℕ) (block bytes : List ℕ) → new.extents ≡ old.extents → at % 4096 + length bytes ≤ 4096 → ShowsPage (memory_of old) (page_of at) block
    → new.written ≡ put nat_cmp (at / 4096) (block_with block (at % 4096) bytes) old.written → (a : ℕ) → memory_of new a ≡ with_bytes at bytes (memory_of old) a
memory-put old new at block bytes extents within shows is =
    memory-written old new at block bytes extents within shows (λ q. rw is (find-put q (at / 4096) _ old.written))

pages-is : (old new : Seen) (at : ℕ) (bytes : List ℕ) → new.written ≡ put nat_cmp (at / 4096) bytes old.written
    → map (λ page. page.0 * 4096) new.written ≡ with_number (page_of at) (map (λ page. page.0 * 4096) old.written)
pages-is old new at bytes is = ap (map (λ page. page.0 * 4096)) is ∙ pages-put (at / 4096) bytes old.written

-- a page that wasn't written to gets a block
pub writes-insert : (old new : Seen) (before after : Counts) (at : ℕ) (block put_block bytes : List ℕ) → InPage old at (length bytes)
    → written_page old at ≡ None → length old.written < page_limit → length block ≡ 4096 → HasKnown old.extents (page_of at) block
    → put_block ≡ block_with block (at % 4096) bytes → new.extents ≡ old.extents → new.written ≡ put nat_cmp (at / 4096) put_block old.written
    → after.live ≡ before.live + 1 → WritesBytes old new before after at bytes
writes-insert old new before after at block put_block bytes in_page absent room count filled put_is extents inserted live =
    let out = room-unrefused old at (length bytes) in_page absent room in
    let written : new.written ≡ put nat_cmp (at / 4096) (block_with block (at % 4096) bytes) old.written = rw put_is at inserted in
    record {
      unrefused = out.unrefused;
      extents = extents;
      memory = memory-put old new at block bytes extents in_page.within (shows-unwritten old at block count absent filled) written;
      pages = pages-is old new at _ written;
      count = rw out.unwritten (ap length written ∙ length-put (at / 4096) _ old.written absent);
      live = rw out.unwritten live;
    }

-- the block of a page that was written to is changed
pub writes-put : (old new : Seen) (before after : Counts) (at : ℕ) (block bytes : List ℕ) → InPage old at (length bytes)
    → written_page old at ≡ Some block → length block ≡ 4096 → new.extents ≡ old.extents
    → new.written ≡ put nat_cmp (at / 4096) (block_with block (at % 4096) bytes) old.written → length new.written ≡ length old.written
    → after.live ≡ before.live → WritesBytes old new before after at bytes
writes-put old new before after at block bytes in_page found count extents changed same_count live =
    let written : is_written old at ≡ true = ap is_some found in
    record {
      unrefused = unrefused-written old at (length bytes) in_page.known in_page.some in_page.within written;
      extents = extents;
      memory = memory-put old new at block bytes extents in_page.within (shows-written old at block count found) changed;
      pages = pages-is old new at _ changed;
      count = rw written (same_count ∙ omega arith);
      live = rw written (live ∙ omega arith);
    }

pub page_of-is : (a : ℕ) → a - a % 4096 ≡ page_of a
page_of-is a = omega arith

-- what a look-up that found nothing says
pub not_found : (page : Option (List ℕ)) → false ≡ is_some page → page ≡ None
not_found None none = refl
not_found (Some bytes) none = absurd (cc)

pub found_block : (page : Option (List ℕ)) → true ≡ is_some page → (block : List ℕ) × (page ≡ Some block)
found_block None some = absurd (cc)
found_block (Some bytes) some = (bytes, refl)
