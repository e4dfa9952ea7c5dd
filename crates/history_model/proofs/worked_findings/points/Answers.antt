-- Page 0 is held under PCID 0 and global, and the present tables don't map it.
use Rattle.std.proofs.Common.{◌≡◌, ℕ, true, List, [], ◌∷◌, Some, ◌⊎◌, refl, inl, inr, ap, sym, ◌∙◌, subst, arith}
use Rattle.std.proofs.lemmas.Bool.{false≢true}
use Rattle.paging_model.specs.AccessRights.{is_granted}
use Rattle.paging_model.specs.Counting.{IsIn}
use Rattle.paging_model.specs.Entries.{entry_of, is_reserved}
use Rattle.paging_model.specs.Memory.{entry_at}
use Rattle.paging_model.specs.Pointers.{aim_of}
use Rattle.paging_model.specs.Walking.{walk, walk_from}
use Rattle.paging_model.specs.WorkedExamples.{small_regs}
use Rattle.paging_model.specs.declared.registers.Regs.{Regs}
use Rattle.history_model.specs.History.{History, start_of, next, last_root}
use Rattle.history_model.specs.Invalidations.{kills}
use Rattle.history_model.specs.CachedTranslations.{Held, MayHold, MayUse, kept, at_root, below, fill_of}
use Rattle.history_model.specs.StaleTranslations.{IsWorst}
use Rattle.history_model.specs.WorkedHistories.{entry_bytes}
use Rattle.history_model.specs.WorkedTranslations.{with_global, without_pages, in_other_pcid, page_at, finding}
use Rattle.history_model.specs.declared.events.Event.TheVariants as event
use Rattle.history_model.proofs.FirstFindings.{is_first}
use Rattle.history_model.proofs.HeldEntries.{table_at, held_at_first, held_at_next}
use Rattle.history_model.proofs.worked_findings.points.Goals as goal

tagged : Regs
tagged = record small_regs { cr4 = 0x200a0 }

later : Regs
later = record tagged { cr3 = 0x1001 }

global_page : Held
global_page = record (page_at 0x5000) { global = true }

tables : List (ℕ × Held) → List (ℕ × Held)
tables pages = (4, table_at 0x2000) ∷ (3, table_at 0x3000) ∷ (2, table_at 0x4000) ∷ pages

with_page : List (ℕ × Held)
with_page = tables ((1, global_page) ∷ [])

one_unmapped : History
one_unmapped = next (with_global 0x200a0) (event.Write 0x4000 (entry_bytes 0))

held_at_start : (level : ℕ) (held : Held) → MayHold (with_global 0x200a0) 0 0 level 0 held → IsIn (level, held) with_page
unfolding entry_of is_reserved entry_at fill_of tagged tables with_page global_page
held_at_start =
    held_at_first 0 0 0 (start_of (with_global 0x200a0)) tagged with_page refl
    (λ _. (inl refl, (λ _. inr (inl refl), (λ _. inr (inr (inl refl)), (λ _. inr (inr (inr (inl refl))), (λ e. absurd (false≢true (sym e)), tt))))))

held_with_one : (level : ℕ) (held : Held) → MayHold one_unmapped 0 0 level 0 held → IsIn (level, held) with_page
unfolding entry_of is_reserved entry_at fill_of tagged tables with_page global_page one_unmapped
held_with_one =
    held_at_next 0 0 0 (with_global 0x200a0) _ tagged tagged with_page with_page refl held_at_start
    (λ _. inl refl, (λ _. inr (inl refl), (λ _. inr (inr (inl refl)), (λ _. inr (inr (inr (inl refl))), tt))))
    refl
    (λ _. (inl refl, (λ _. inr (inl refl), (λ _. inr (inr (inl refl)), (λ _. tt, (λ e. absurd (false≢true (sym e)), tt))))))

held_with_none : (level : ℕ) (held : Held) → MayHold without_pages 0 0 level 0 held → IsIn (level, held) with_page
unfolding entry_of is_reserved entry_at fill_of tagged tables with_page global_page one_unmapped
held_with_none =
    held_at_next 0 0 0 one_unmapped _ tagged tagged with_page with_page refl held_with_one
    (λ _. inl refl, (λ _. inr (inl refl), (λ _. inr (inr (inl refl)), (λ _. inr (inr (inr (inl refl))), tt))))
    refl
    (λ _. (inl refl, (λ _. inr (inl refl), (λ _. inr (inr (inl refl)), (λ _. tt, (λ e. absurd (false≢true (sym e)), tt))))))

-- under PCID 0 nothing is made any more
held_under_0 : (level : ℕ) (held : Held) → MayHold in_other_pcid 0 0 level 0 held → IsIn (level, held) with_page
unfolding tagged later tables with_page global_page
held_under_0 =
    held_at_next 0 0 0 without_pages _ tagged later with_page with_page refl held_with_none
    (λ _. inl refl, (λ _. inr (inl refl), (λ _. inr (inr (inl refl)), (λ _. inr (inr (inr (inl refl))), tt))))
    refl (λ e. absurd (omega (arith, e)))

-- under PCID 1 the references of tables are made
held_under_1 : (level : ℕ) (held : Held) → MayHold in_other_pcid 0 1 level 0 held → IsIn (level, held) (tables [])
unfolding entry_of is_reserved entry_at fill_of tagged later tables one_unmapped
held_under_1 =
    held_at_next 0 1 0 without_pages _ tagged later [] (tables []) refl
    (held_at_next 0 1 0 one_unmapped _ tagged tagged [] [] refl
    (held_at_next 0 1 0 (with_global 0x200a0) _ tagged tagged [] [] refl
    (held_at_first 0 1 0 (start_of (with_global 0x200a0)) tagged [] refl (λ e. absurd (omega (arith, e))))
    tt refl (λ e. absurd (omega (arith, e))))
    tt refl (λ e. absurd (omega (arith, e))))
    tt refl (λ _. (inl refl, (λ _. inr (inl refl), (λ _. inr (inr (inl refl)), (λ _. tt, tt)))))

no_page : (level : ℕ) (held : Held) → IsIn (level, held) (tables []) → held.leaf ≡ true → ⊥
unfolding tables
no_page level held (inl e) leaf = false≢true (sym (ap (λ one. one.1.leaf) e) ∙ leaf)
no_page level held (inr (inl e)) leaf = false≢true (sym (ap (λ one. one.1.leaf) e) ∙ leaf)
no_page level held (inr (inr (inl e))) leaf = false≢true (sym (ap (λ one. one.1.leaf) e) ∙ leaf)
no_page level held (inr (inr (inr e))) leaf = e

-- the PCID under which a translation is held that is used under one of the two
under_either : (c level : ℕ) (held : Held) → (c ≡ 0) ⊎ (c ≡ 1) → (may : MayUse in_other_pcid 0 c level 0 held) → (may.under ≡ 0) ⊎ (may.under ≡ 1)
under_either c level held (inl zero_is) may =
    elim may.reaches [ inl e ↦ inl (e ∙ zero_is) | inr global ↦ elim global.1 [ inl e ↦ inl e | inr one ↦ elim one [ inl e ↦ inr e | inr none ↦ absurd none ] ] ]
under_either c level held (inr one_is) may =
    elim may.reaches [ inl e ↦ inr (e ∙ one_is) | inr global ↦ elim global.1 [ inl e ↦ inl e | inr one ↦ elim one [ inl e ↦ inr e | inr none ↦ absurd none ] ] ]

used_in : (c : ℕ) → (c ≡ 0) ⊎ (c ≡ 1) → (level : ℕ) (held : Held) → MayUse in_other_pcid 0 c level 0 held → IsIn (level, held) with_page
used_in c either level held may =
    elim (under_either c level held either may) [
      | inl e ↦ held_under_0 level held (subst (λ n. MayHold in_other_pcid 0 n level 0 held) e may.held_there)
      | inr e ↦ absurd (no_page level held (held_under_1 level held (subst (λ n. MayHold in_other_pcid 0 n level 0 held) e may.held_there)) may.leaf)
    ]

module _ (c : ℕ) (either : (c ≡ 0) ⊎ (c ≡ 1)) (reaches : (0 ≡ c) ⊎ ((true ≡ true) × IsIn {Thing = ℕ} 0 (0 ∷ 1 ∷ []))) (is_root : last_root in_other_pcid 0 c ≡ Some 0x1000) where
  worst : IsWorst in_other_pcid (record (finding 0 0 0x5000 255) { pcid = c })
  unfolding entry_of is_reserved entry_at walk walk_from is_granted aim_of fill_of kills tagged later tables with_page global_page
  worst = record {
    stale = record {
      known = later;
      is_known = refl;
      root = 0x1000;
      is_root = is_root;
      page = record { below = omega arith; aligned = refl; canonical = refl };
      level = 1;
      held = global_page;
      may_use = record {
        leaf = refl;
        under = 0;
        reaches = reaches;
        held_there = kept _ (kept _ (kept _ (below _ refl refl (below _ refl refl (below _ refl refl (at_root refl refl refl refl) refl refl) refl refl) refl refl) refl refl) refl refl) refl refl;
      };
      exceeds = tt;
      frame = refl;
      excess = refl;
    };
    first =
        is_first in_other_pcid 0 c later 0x1000 refl is_root with_page (used_in c either) 0x5000 255
        (λ e. absurd (false≢true e), (λ e. absurd (false≢true e), (λ e. absurd (false≢true e), (λ _. inr (refl, inr (refl, omega arith)), tt))));
  }

pub returns : goal.returns
returns c = record {
  current = (_, inr (_, _, refl, refl, refl, worst 1 (inr refl) (inr (refl, inl refl)) refl, refl), refl);
  all = (
    _,
    inr (_, _, refl, refl, refl, worst 0 (inl refl) (inl refl) refl, inr (_, _, refl, refl, refl, worst 1 (inr refl) (inr (refl, inl refl)) refl, refl)),
    refl,
  );
}
