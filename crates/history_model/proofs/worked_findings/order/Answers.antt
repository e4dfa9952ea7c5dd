-- Each of the three entries may be held of page 0, and the present tables don't map it.
use Rattle.std.proofs.Common.{◌≡◌, ℕ, false, List, [], ◌∷◌, refl, inl, inr, arith, sym}
use Rattle.std.proofs.lemmas.Bool.{false≢true}
use Rattle.paging_model.specs.AccessRights.{is_granted}
use Rattle.paging_model.specs.Counting.{IsIn}
use Rattle.paging_model.specs.Entries.{entry_of, is_reserved}
use Rattle.paging_model.specs.LinearAddress.{IsPage}
use Rattle.paging_model.specs.Memory.{entry_at}
use Rattle.paging_model.specs.Pointers.{aim_of}
use Rattle.paging_model.specs.Walking.{walk, walk_from}
use Rattle.paging_model.specs.WorkedExamples.{small_regs, no_write}
use Rattle.history_model.specs.History.{start_of, next}
use Rattle.history_model.specs.Invalidations.{kills}
use Rattle.history_model.specs.CachedTranslations.{Held, MayHold, MayUse, kept, at_root, below, fill_of, frame_at}
use Rattle.history_model.specs.StaleTranslations.{IsStale}
use Rattle.history_model.specs.WorkedFindings.{three_entries}
use Rattle.history_model.specs.WorkedHistories.{entry_bytes}
use Rattle.history_model.specs.WorkedTranslations.{two_pages, with_first_entry, page_at, finding}
use Rattle.history_model.specs.declared.events.Event.TheVariants as event
use Rattle.history_model.proofs.FirstFindings.{beyond, is_first, used_under_0}
use Rattle.history_model.proofs.HeldEntries.{table_at, held_at_first, held_at_next}
use Rattle.history_model.proofs.worked_findings.order.Goals as goal

first_frame : Held
first_frame = record (page_at 0x5000) { bits = no_write }

tables : List (ℕ × Held) → List (ℕ × Held)
tables pages = (4, table_at 0x2000) ∷ (3, table_at 0x3000) ∷ (2, table_at 0x4000) ∷ (1, page_at 0x5000) ∷ pages

held_at_first_entry : (level : ℕ) (held : Held) → MayHold two_pages 0 0 level 0 held → IsIn (level, held) (tables [])
unfolding entry_of is_reserved entry_at fill_of tables
held_at_first_entry =
    held_at_first 0 0 0 (start_of two_pages) small_regs (tables []) refl
    (λ _. (inl refl, (λ _. inr (inl refl), (λ _. inr (inr (inl refl)), (λ _. inr (inr (inr (inl refl))), (λ e. absurd (false≢true (sym e)), tt))))))

-- with the other frame
second : List (ℕ × Held)
second = tables ((1, page_at 0x7000) ∷ [])

held_at_second : (level : ℕ) (held : Held) → MayHold (with_first_entry 0x7007) 0 0 level 0 held → IsIn (level, held) second
unfolding entry_of is_reserved entry_at fill_of tables second
held_at_second =
    held_at_next 0 0 0 two_pages _ small_regs small_regs (tables []) second refl held_at_first_entry
    (λ _. inl refl, (λ _. inr (inl refl), (λ _. inr (inr (inl refl)), (λ _. inr (inr (inr (inl refl))), tt))))
    refl
    (λ _. (inl refl, (λ _. inr (inl refl), (λ _. inr (inr (inl refl)), (λ _. inr (inr (inr (inr (inl refl)))), (λ e. absurd (false≢true (sym e)), (λ e. absurd (false≢true (sym e)), tt)))))))

-- with the first frame again, without writes
third : List (ℕ × Held)
third = tables ((1, page_at 0x7000) ∷ (1, first_frame) ∷ [])

held_at_third : (level : ℕ) (held : Held) → MayHold (next (with_first_entry 0x7007) (event.Write 0x4000 (entry_bytes 0x5005))) 0 0 level 0 held → IsIn (level, held) third
unfolding entry_of is_reserved entry_at fill_of tables second third first_frame
held_at_third =
    held_at_next 0 0 0 (with_first_entry 0x7007) _ small_regs small_regs second third refl held_at_second
    (λ _. inl refl, (λ _. inr (inl refl), (λ _. inr (inr (inl refl)), (λ _. inr (inr (inr (inl refl))), (λ _. inr (inr (inr (inr (inl refl)))), tt)))))
    refl
    (λ _. (inl refl, (λ _. inr (inl refl), (λ _. inr (inr (inl refl)), (λ _. inr (inr (inr (inr (inr (inl refl))))), (λ e. absurd (false≢true (sym e)), (λ e. absurd (false≢true (sym e)), (λ e. absurd (false≢true (sym e)), tt))))))))

held_at_last : (level : ℕ) (held : Held) → MayHold three_entries 0 0 level 0 held → IsIn (level, held) third
unfolding entry_of is_reserved entry_at fill_of tables third first_frame
held_at_last =
    held_at_next 0 0 0 (next (with_first_entry 0x7007) (event.Write 0x4000 (entry_bytes 0x5005))) _ small_regs small_regs third third refl held_at_third
    (λ _. inl refl, (λ _. inr (inl refl), (λ _. inr (inr (inl refl)), (λ _. inr (inr (inr (inl refl))), (λ _. inr (inr (inr (inr (inl refl)))), (λ _. inr (inr (inr (inr (inr (inl refl))))), tt))))))
    refl
    (λ _. (inl refl, (λ _. inr (inl refl), (λ _. inr (inr (inl refl)), (λ _. tt, (λ e. absurd (false≢true (sym e)), (λ e. absurd (false≢true (sym e)), (λ e. absurd (false≢true (sym e)), tt))))))))

page_0 : IsPage false 0
page_0 = record { below = omega arith; aligned = refl; canonical = refl }

-- made at the first moment, after the first write and after the second
in_use : MayUse three_entries 0 0 1 0 (page_at 0x5000)
unfolding entry_of is_reserved entry_at fill_of kills
in_use = record {
  leaf = refl;
  under = 0;
  reaches = inl refl;
  held_there = kept _ (kept _ (kept _ (below _ refl refl (below _ refl refl (below _ refl refl (at_root refl refl refl refl) refl refl) refl refl) refl refl) refl refl) refl refl) refl refl;
}

in_use_second : MayUse three_entries 0 0 1 0 (page_at 0x7000)
unfolding entry_of is_reserved entry_at fill_of kills
in_use_second = record {
  leaf = refl;
  under = 0;
  reaches = inl refl;
  held_there = kept _ (kept _ (below _ refl refl (below _ refl refl (below _ refl refl (at_root refl refl refl refl) refl refl) refl refl) refl refl) refl refl) refl refl;
}

in_use_third : MayUse three_entries 0 0 1 0 first_frame
unfolding entry_of is_reserved entry_at fill_of kills first_frame
in_use_third = record {
  leaf = refl;
  under = 0;
  reaches = inl refl;
  held_there = kept _ (below _ refl refl (below _ refl refl (below _ refl refl (at_root refl refl refl refl) refl refl) refl refl) refl refl) refl refl;
}

stale_of : (held : Held) (frame excess : ℕ) → MayUse three_entries 0 0 1 0 held → frame ≡ frame_at 1 0 held
    → excess ≡ beyond three_entries small_regs 0x1000 1 held → IsStale three_entries (finding 0 0 frame excess)
unfolding entry_of is_reserved entry_at walk walk_from
stale_of held frame excess may frame_is excess_is = record {
  known = small_regs;
  is_known = refl;
  root = 0x1000;
  is_root = refl;
  page = page_0;
  level = 1;
  held = held;
  may_use = may;
  exceeds = tt;
  frame = frame_is;
  excess = excess_is;
}

pub returns : goal.returns
unfolding entry_of is_reserved entry_at walk walk_from is_granted aim_of tables third first_frame
returns c = record {
  greater_frame = stale_of (page_at 0x7000) _ _ in_use_second refl refl;
  greater_excess = stale_of (page_at 0x5000) _ _ in_use refl refl;
  first = record {
    stale = stale_of first_frame _ _ in_use_third refl refl;
    first =
        is_first three_entries 0 0 small_regs 0x1000 refl refl third (used_under_0 three_entries 0 third refl held_at_last) 0x5000 109
        (λ e. absurd (false≢true e), (λ e. absurd (false≢true e), (λ e. absurd (false≢true e), (λ _. inr (refl, inr (refl, omega arith)), (λ _. inr (refl, inl (omega arith)), (λ _. inr (refl, inr (refl, omega arith)), tt))))));
  };
}
