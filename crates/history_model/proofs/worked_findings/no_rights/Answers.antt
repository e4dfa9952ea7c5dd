-- Of page 0 the entry of the first moment may be held, and the supervisor's.
use Rattle.std.proofs.Common.{ℕ, true, false, List, [], ◌∷◌, refl, inl, inr, arith, sym}
use Rattle.std.proofs.lemmas.Bool.{false≢true}
use Rattle.paging_model.specs.AccessRights.{is_granted}
use Rattle.paging_model.specs.Counting.{IsIn}
use Rattle.paging_model.specs.Entries.{entry_of, is_reserved}
use Rattle.paging_model.specs.Memory.{entry_at}
use Rattle.paging_model.specs.Pointers.{aim_of}
use Rattle.paging_model.specs.Walking.{walk, walk_from}
use Rattle.paging_model.specs.WorkedExamples.{small_regs}
use Rattle.paging_model.specs.declared.registers.RegChange.TheVariants as change
use Rattle.paging_model.specs.declared.registers.Regs.{Regs}
use Rattle.history_model.specs.History.{History, start_of, next}
use Rattle.history_model.specs.Invalidations.{kills}
use Rattle.history_model.specs.CachedTranslations.{Held, MayHold, kept, at_root, below, fill_of}
use Rattle.history_model.specs.StaleTranslations.{IsStale}
use Rattle.history_model.specs.WorkedFindings.{without_rights}
use Rattle.history_model.specs.WorkedTranslations.{two_pages, page_at, finding}
use Rattle.history_model.specs.declared.events.Event.TheVariants as event
use Rattle.history_model.proofs.FirstFindings.{is_first, used_under_0}
use Rattle.history_model.proofs.HeldEntries.{table_at, held_at_first, held_at_next}
use Rattle.history_model.proofs.worked_findings.no_rights.Goals as goal

-- with protection keys of supervisor pages, and with the one that denies them data accesses
key_regs : Regs
key_regs = record small_regs { cr4 = 0x1000020 }

denial_regs : Regs
denial_regs = record key_regs { pkrs = 1 }

with_keys : History
with_keys = next two_pages (event.Set 0 (change.Cr4 0x1000020))

with_denial : History
with_denial = next with_keys (event.Set 0 (change.Pkrs 1))

with_other_entry : History
with_other_entry = next with_denial (event.Write 0x4000 (3 ∷ 0x50 ∷ 0 ∷ 0 ∷ 0 ∷ 0 ∷ 0 ∷ 0x80 ∷ []))

-- the supervisor's page, without fetches
of_supervisor : Held
of_supervisor = record (page_at 0x5000) { bits = record { write = true; user = false; xd = true } }

tables : List (ℕ × Held) → List (ℕ × Held)
tables pages = (4, table_at 0x2000) ∷ (3, table_at 0x3000) ∷ (2, table_at 0x4000) ∷ (1, page_at 0x5000) ∷ pages

held_at_start : (level : ℕ) (held : Held) → MayHold two_pages 0 0 level 0 held → IsIn (level, held) (tables [])
unfolding entry_of is_reserved entry_at fill_of tables
held_at_start =
    held_at_first 0 0 0 (start_of two_pages) small_regs (tables []) refl
    (λ _. (inl refl, (λ _. inr (inl refl), (λ _. inr (inr (inl refl)), (λ _. inr (inr (inr (inl refl))), (λ e. absurd (false≢true (sym e)), tt))))))

held_with_keys : (level : ℕ) (held : Held) → MayHold with_keys 0 0 level 0 held → IsIn (level, held) (tables [])
unfolding entry_of is_reserved entry_at fill_of tables key_regs with_keys
held_with_keys =
    held_at_next 0 0 0 two_pages _ small_regs key_regs (tables []) (tables []) refl held_at_start
    (λ _. inl refl, (λ _. inr (inl refl), (λ _. inr (inr (inl refl)), (λ _. inr (inr (inr (inl refl))), tt))))
    refl
    (λ _. (inl refl, (λ _. inr (inl refl), (λ _. inr (inr (inl refl)), (λ _. inr (inr (inr (inl refl))), (λ e. absurd (false≢true (sym e)), tt))))))

held_with_denial : (level : ℕ) (held : Held) → MayHold with_denial 0 0 level 0 held → IsIn (level, held) (tables [])
unfolding entry_of is_reserved entry_at fill_of tables key_regs denial_regs with_keys with_denial
held_with_denial =
    held_at_next 0 0 0 with_keys _ key_regs denial_regs (tables []) (tables []) refl held_with_keys
    (λ _. inl refl, (λ _. inr (inl refl), (λ _. inr (inr (inl refl)), (λ _. inr (inr (inr (inl refl))), tt))))
    refl
    (λ _. (inl refl, (λ _. inr (inl refl), (λ _. inr (inr (inl refl)), (λ _. inr (inr (inr (inl refl))), (λ e. absurd (false≢true (sym e)), tt))))))

both : List (ℕ × Held)
both = tables ((1, of_supervisor) ∷ [])

held_with_other : (level : ℕ) (held : Held) → MayHold with_other_entry 0 0 level 0 held → IsIn (level, held) both
unfolding entry_of is_reserved entry_at fill_of tables key_regs denial_regs with_keys with_denial with_other_entry both of_supervisor
held_with_other =
    held_at_next 0 0 0 with_denial _ denial_regs denial_regs (tables []) both refl held_with_denial
    (λ _. inl refl, (λ _. inr (inl refl), (λ _. inr (inr (inl refl)), (λ _. inr (inr (inr (inl refl))), tt))))
    refl
    (λ _. (inl refl, (λ _. inr (inl refl), (λ _. inr (inr (inl refl)), (λ _. inr (inr (inr (inr (inl refl)))), (λ e. absurd (false≢true (sym e)), (λ e. absurd (false≢true (sym e)), tt)))))))

held_at_last : (level : ℕ) (held : Held) → MayHold without_rights 0 0 level 0 held → IsIn (level, held) both
unfolding entry_of is_reserved entry_at fill_of tables key_regs denial_regs with_keys with_denial with_other_entry both of_supervisor
held_at_last =
    held_at_next 0 0 0 with_other_entry _ denial_regs denial_regs both both refl held_with_other
    (λ _. inl refl, (λ _. inr (inl refl), (λ _. inr (inr (inl refl)), (λ _. inr (inr (inr (inl refl))), (λ _. inr (inr (inr (inr (inl refl)))), tt)))))
    refl
    (λ _. (inl refl, (λ _. inr (inl refl), (λ _. inr (inr (inl refl)), (λ _. tt, (λ e. absurd (false≢true (sym e)), (λ e. absurd (false≢true (sym e)), tt)))))))

stale : IsStale without_rights (finding 0 0 0x5000 0)
unfolding entry_of is_reserved entry_at walk walk_from is_granted aim_of fill_of kills denial_regs key_regs of_supervisor
stale = record {
  known = denial_regs;
  is_known = refl;
  root = 0x1000;
  is_root = refl;
  page = record { below = omega arith; aligned = refl; canonical = refl };
  level = 1;
  held = of_supervisor;
  may_use = record {
    leaf = refl;
    under = 0;
    reaches = inl refl;
    held_there = kept _ (below _ refl refl (below _ refl refl (below _ refl refl (at_root refl refl refl refl) refl refl) refl refl) refl refl) refl refl;
  };
  exceeds = tt;
  frame = refl;
  excess = refl;
}

pub returns : goal.returns
unfolding entry_of is_reserved entry_at walk walk_from is_granted aim_of key_regs denial_regs tables both of_supervisor
returns c = record {
  first = record {
    stale = stale;
    first =
        is_first without_rights 0 0 denial_regs 0x1000 refl refl both (used_under_0 without_rights 0 both refl held_at_last) 0x5000 0
        (λ e. absurd (false≢true e), (λ e. absurd (false≢true e), (λ e. absurd (false≢true e), (λ _. inr (refl, inr (refl, omega arith)), (λ _. inr (refl, inr (refl, omega arith)), tt)))));
  };
}
