-- Page 0 is the least page, and on either processor its translation to 0x5000 is the one that is held.
use Rattle.std.proofs.Common.{◌≡◌, ℕ, List, [], ◌∷◌, Some, refl, inl, inr, arith, sym}
use Rattle.std.proofs.lemmas.Bool.{false≢true}
use Rattle.paging_model.specs.AccessRights.{is_granted}
use Rattle.paging_model.specs.Counting.{IsIn}
use Rattle.paging_model.specs.Entries.{entry_of, is_reserved}
use Rattle.paging_model.specs.Memory.{entry_at}
use Rattle.paging_model.specs.Pointers.{aim_of}
use Rattle.paging_model.specs.Walking.{walk, walk_from}
use Rattle.paging_model.specs.WorkedExamples.{small_regs, no_write}
use Rattle.history_model.specs.History.{start_of, regs, last_root, visited_pcids}
use Rattle.history_model.specs.Invalidations.{kills}
use Rattle.history_model.specs.CachedTranslations.{Held, MayHold, kept, at_root, below, fill_of}
use Rattle.history_model.specs.StaleTranslations.{IsStale, IsWorst, IsNotAfter}
use Rattle.history_model.specs.WorkedTranslations.{two_pages, with_first_entry, without_entries, page_at, finding}
use Rattle.history_model.proofs.FirstFindings.{is_first, used_under_0}
use Rattle.history_model.proofs.HeldEntries.{table_at, held_at_first, held_at_next}
use Rattle.history_model.proofs.worked_translations.findings.Goals as goal

entries : List (ℕ × Held)
entries = (4, table_at 0x2000) ∷ (3, table_at 0x3000) ∷ (2, table_at 0x4000) ∷ (1, page_at 0x5000) ∷ []

-- of one of the processors
module _ (p : ℕ) (was : regs two_pages p ≡ Some small_regs) (is_known : regs (with_first_entry 0) p ≡ Some small_regs) (is_root : last_root (with_first_entry 0) p 0 ≡ Some 0x1000) (visited : visited_pcids (with_first_entry 0) p ≡ 0 ∷ []) where
  held_at_start : (level : ℕ) (held : Held) → MayHold two_pages p 0 level 0 held → IsIn (level, held) entries
  unfolding entry_of is_reserved entry_at fill_of entries
  held_at_start =
      held_at_first p 0 0 (start_of two_pages) small_regs entries was
      (λ _. (inl refl, (λ _. inr (inl refl), (λ _. inr (inr (inl refl)), (λ _. inr (inr (inr (inl refl))), (λ e. absurd (false≢true (sym e)), tt))))))

  held_now : (level : ℕ) (held : Held) → MayHold (with_first_entry 0) p 0 level 0 held → IsIn (level, held) entries
  unfolding entry_of is_reserved entry_at fill_of entries
  held_now =
      held_at_next p 0 0 two_pages _ small_regs small_regs entries entries was held_at_start
      (λ _. inl refl, (λ _. inr (inl refl), (λ _. inr (inr (inl refl)), (λ _. inr (inr (inr (inl refl))), tt))))
      is_known
      (λ _. (inl refl, (λ _. inr (inl refl), (λ _. inr (inr (inl refl)), (λ _. tt, (λ e. absurd (false≢true (sym e)), tt))))))

  stale : IsStale (with_first_entry 0) (finding p 0 0x5000 255)
  unfolding entry_of is_reserved entry_at walk walk_from is_granted aim_of fill_of kills
  stale = record {
    known = small_regs;
    is_known = is_known;
    root = 0x1000;
    is_root = is_root;
    page = record { below = omega arith; aligned = refl; canonical = refl };
    level = 1;
    held = page_at 0x5000;
    may_use = record {
      leaf = refl;
      under = 0;
      reaches = inl refl;
      held_there = kept _ (below _ was refl (below _ was refl (below _ was refl (at_root was refl refl refl) refl refl) refl refl) refl refl) was refl;
    };
    exceeds = tt;
    frame = refl;
    excess = refl;
  }

  worst : IsWorst (with_first_entry 0) (finding p 0 0x5000 255)
  unfolding entry_of is_reserved entry_at walk walk_from is_granted aim_of entries
  worst = record {
    stale = stale;
    first =
        is_first (with_first_entry 0) p 0 small_regs 0x1000 is_known is_root entries (used_under_0 (with_first_entry 0) p entries visited held_now) 0x5000 255
        (λ e. absurd (false≢true e), (λ e. absurd (false≢true e), (λ e. absurd (false≢true e), (λ _. inr (refl, inr (refl, omega arith)), tt))));
  }

cleared_first : IsStale without_entries (finding 0 0 0x5000 255)
unfolding entry_of is_reserved entry_at walk walk_from is_granted aim_of fill_of kills
cleared_first = record {
  known = small_regs;
  is_known = refl;
  root = 0x1000;
  is_root = refl;
  page = record { below = omega arith; aligned = refl; canonical = refl };
  level = 1;
  held = page_at 0x5000;
  may_use = record {
    leaf = refl;
    under = 0;
    reaches = inl refl;
    held_there = kept _ (kept _ (below _ refl refl (below _ refl refl (below _ refl refl (at_root refl refl refl refl) refl refl) refl refl) refl refl) refl refl) refl refl;
  };
  exceeds = tt;
  frame = refl;
  excess = refl;
}

cleared_second : IsStale without_entries (finding 0 0x1000 0x6000 109)
unfolding entry_of is_reserved entry_at walk walk_from is_granted aim_of fill_of kills
cleared_second = record {
  known = small_regs;
  is_known = refl;
  root = 0x1000;
  is_root = refl;
  page = record { below = omega arith; aligned = refl; canonical = refl };
  level = 1;
  held = record (page_at 0x6000) { bits = no_write };
  may_use = record {
    leaf = refl;
    under = 0;
    reaches = inl refl;
    held_there = kept _ (kept _ (below _ refl refl (below _ refl refl (below _ refl refl (at_root refl refl refl refl) refl refl) refl refl) refl refl) refl refl) refl refl;
  };
  exceeds = tt;
  frame = refl;
  excess = refl;
}

not_after : IsNotAfter (finding 0 0x1000 0x6000 109) (finding 0 0 0x5000 255) → ⊥
not_after (inl e) = absurd (omega (arith, e))
not_after (inr e) = absurd (omega (arith, e.0))

pub returns : goal.returns
unfolding entry_of is_reserved entry_at walk walk_from is_granted aim_of fill_of kills
returns c = record {
  both =
      inr (
        _,
        _,
        refl,
        refl,
        refl,
        worst 0 refl refl refl refl,
        inr (_, _, refl, refl, refl, worst 1 refl refl refl refl, refl),
      );
  first_page = cleared_first;
  second_page = cleared_second;
  least_alone = λ worst. not_after (worst.first (finding 0 0 0x5000 255) refl refl cleared_first);
}
