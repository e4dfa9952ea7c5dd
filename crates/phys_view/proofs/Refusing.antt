-- Whether a write is refused, from what code finds out: the first unknown byte, where the write ends, and the number of
-- written pages.
use Rattle.std.proofs.Common.{◌≡◌, ℕ, ◌+◌, ◌-◌, ◌*◌, ◌/◌, ◌%◌, ◌<◌, ◌≤◌, ◌==◌, length, true, false, Some, None, refl, ◌∙◌, ap, arith}
use Rattle.std.proofs.lemmas.List.{length-map}
use Rattle.std.proofs.lemmas.Bool.{eq-eqb, ne_eqb, le-leb, lt-leb}
use Rattle.std.specs.Prelude.{nat_le}
use Rattle.history_model.specs.History.{page_of}
use Rattle.history_model.specs.Refusals.{first_unknown, is_among, page_limit}
use Rattle.history_model.specs.declared.faults.StepFault.TheVariants as fault
use Rattle.phys_view.specs.Seen.{Seen, is_written, memory_of, written_pages}
use Rattle.phys_view.specs.Writes.{refusal_of_write}
use Rattle.phys_view.proofs.WrittenPages.{is_among-is}

pages-count : (seen : Seen) → length (written_pages seen) ≡ length seen.written
pages-count seen = length-map seen.written (λ page. page.0 * 4096)

stays : (at n : ℕ) → 1 ≤ n → at % 4096 + n ≤ 4096 → (page_of (at + n - 1) == page_of at) ≡ true
stays at n some within = eq-eqb _ _ (omega arith)

goes_on : (at n : ℕ) → 4096 < at % 4096 + n → (page_of (at + n - 1) == page_of at) ≡ false
goes_on at n beyond = ne_eqb _ _ (λ same. omega arith)

pub refused-unknown : (seen : Seen) (at n u : ℕ) → first_unknown (memory_of seen) at n ≡ Some u → refusal_of_write seen at n ≡ Some (fault.Unknown u)
refused-unknown seen at n u unknown = rw unknown refl

pub refused-crosses : (seen : Seen) (at n : ℕ) → first_unknown (memory_of seen) at n ≡ None → 4096 < at % 4096 + n → refusal_of_write seen at n ≡ Some (fault.Crosses (page_of at + 4096))
refused-crosses seen at n known beyond = rw (known, goes_on at n beyond) refl

pub refused-full : (seen : Seen) (at n : ℕ) → first_unknown (memory_of seen) at n ≡ None → 1 ≤ n → at % 4096 + n ≤ 4096 → is_written seen at ≡ false → page_limit ≤ length seen.written
    → refusal_of_write seen at n ≡ Some fault.OverlayFull
refused-full seen at n known some within unwritten full =
    let among : is_among (page_of at) (written_pages seen) ≡ false = is_among-is (at / 4096) seen.written ∙ unwritten in
    let many : nat_le page_limit (length (written_pages seen)) ≡ true = ap (nat_le page_limit) (pages-count seen) ∙ le-leb _ _ full in
    rw (known, stays at n some within, among, many) refl

pub unrefused-written : (seen : Seen) (at n : ℕ) → first_unknown (memory_of seen) at n ≡ None → 1 ≤ n → at % 4096 + n ≤ 4096 → is_written seen at ≡ true → refusal_of_write seen at n ≡ None
unrefused-written seen at n known some within written =
    let among : is_among (page_of at) (written_pages seen) ≡ true = is_among-is (at / 4096) seen.written ∙ written in
    rw (known, stays at n some within, among) refl

pub unrefused-room : (seen : Seen) (at n : ℕ) → first_unknown (memory_of seen) at n ≡ None → 1 ≤ n → at % 4096 + n ≤ 4096 → is_written seen at ≡ false → length seen.written < page_limit
    → refusal_of_write seen at n ≡ None
unrefused-room seen at n known some within unwritten room =
    let among : is_among (page_of at) (written_pages seen) ≡ false = is_among-is (at / 4096) seen.written ∙ unwritten in
    let few : nat_le page_limit (length (written_pages seen)) ≡ false = ap (nat_le page_limit) (pages-count seen) ∙ lt-leb _ _ room in
    rw (known, stays at n some within, among, few) refl
