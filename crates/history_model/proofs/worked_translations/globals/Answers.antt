-- A page that is held under PCID 0 is used under PCID 1 where it is global; under PCID 1 only references are held.
use Rattle.std.proofs.Common.{◌≡◌, ℕ, false, List, [], ◌∷◌, refl, inl, inr, ap, arith, sym, subst}
use Rattle.std.proofs.lemmas.Bool.{false≢true}
use Rattle.paging_model.specs.Counting.{IsIn}
use Rattle.paging_model.specs.Entries.{entry_of, is_reserved}
use Rattle.paging_model.specs.Memory.{entry_at}
use Rattle.paging_model.specs.WorkedExamples.{small_regs}
use Rattle.paging_model.specs.declared.registers.Regs.{Regs}
use Rattle.history_model.specs.History.{start_of}
use Rattle.history_model.specs.Invalidations.{kills}
use Rattle.history_model.specs.CachedTranslations.{Held, MayHold, MayUse, kept, at_root, below, fill_of}
use Rattle.history_model.specs.WorkedTranslations.{with_global, without_pages, in_other_pcid, page_at}
use Rattle.history_model.proofs.HeldEntries.{table_at, held_at_first, held_at_next}
use Rattle.history_model.proofs.worked_translations.globals.Goals as goal

tagged : Regs
tagged = record small_regs { cr4 = 0x200a0 }

later : Regs
later = record tagged { cr3 = 0x1001 }

none_at_first : (x level : ℕ) (held : Held) → MayHold (with_global 0x200a0) 0 1 level x held → ⊥
unfolding tagged
none_at_first x = held_at_first 0 1 x (start_of (with_global 0x200a0)) tagged [] refl (λ e. absurd (omega (arith, e)))

tables : List (ℕ × Held)
tables = (4, table_at 0x2000) ∷ (3, table_at 0x3000) ∷ (2, table_at 0x4000) ∷ []

tables_alone : (level : ℕ) (held : Held) → MayHold in_other_pcid 0 1 level 0x1000 held → IsIn (level, held) tables
unfolding entry_of is_reserved entry_at fill_of tagged later tables
tables_alone =
    held_at_next 0 1 0x1000 without_pages _ tagged later [] tables refl
    (held_at_next 0 1 0x1000 _ _ tagged tagged [] [] refl
    (held_at_next 0 1 0x1000 _ _ tagged tagged [] [] refl (none_at_first 0x1000) tt refl (λ e. absurd (omega (arith, e))))
    tt refl (λ e. absurd (omega (arith, e))))
    tt refl (λ _. (inl refl, (λ _. inr (inl refl), (λ _. inr (inr (inl refl)), (λ _. tt, tt)))))

no_page : (held : Held) → IsIn (1, held) tables → ⊥
unfolding tables
no_page held (inl e) = absurd (omega (arith, ap (λ one. one.0) e))
no_page held (inr (inl e)) = absurd (omega (arith, ap (λ one. one.0) e))
no_page held (inr (inr (inl e))) = absurd (omega (arith, ap (λ one. one.0) e))
no_page held (inr (inr (inr e))) = e

not_elsewhere : MayUse in_other_pcid 0 1 1 0x1000 (page_at 0x6000) → ⊥
not_elsewhere may =
    elim may.reaches [
      | inl e ↦ no_page _ (tables_alone 1 _ (subst (λ c. MayHold in_other_pcid 0 c 1 0x1000 (page_at 0x6000)) e may.held_there))
      | inr g ↦ absurd (false≢true g.0)
    ]

untagged : List (ℕ × Held)
untagged = (4, table_at 0x2000) ∷ (3, table_at 0x3000) ∷ (2, table_at 0x4000) ∷ (1, page_at 0x5000) ∷ []

all_untagged : (level : ℕ) (held : Held) → MayHold (with_global 0x20) 0 0 level 0 held → IsIn (level, held) untagged
unfolding entry_of is_reserved entry_at fill_of untagged
all_untagged =
    held_at_first 0 0 0 (start_of (with_global 0x20)) (record small_regs { cr4 = 0x20 }) untagged refl
    (λ _. (inl refl, (λ _. inr (inl refl), (λ _. inr (inr (inl refl)), (λ _. inr (inr (inr (inl refl))), (λ e. absurd (false≢true (sym e)), tt))))))

none_global : (held : Held) → IsIn (1, held) untagged → held.global ≡ false
unfolding untagged
none_global held (inl e) = absurd (omega (arith, ap (λ one. one.0) e))
none_global held (inr (inl e)) = absurd (omega (arith, ap (λ one. one.0) e))
none_global held (inr (inr (inl e))) = absurd (omega (arith, ap (λ one. one.0) e))
none_global held (inr (inr (inr (inl e)))) = ap (λ one. one.1.global) e
none_global held (inr (inr (inr (inr e)))) = absurd e

pub returns : goal.returns
unfolding entry_of is_reserved entry_at fill_of kills
returns c = record {
  everywhere = record {
    leaf = refl;
    under = 0;
    reaches = inr (refl, inl refl);
    held_there = kept _ (kept _ (kept _ (below _ refl refl (below _ refl refl (below _ refl refl (at_root refl refl refl refl) refl refl) refl refl) refl refl) refl refl) refl refl) refl refl;
  };
  own = record {
    leaf = refl;
    under = 0;
    reaches = inl refl;
    held_there = kept _ (kept _ (kept _ (below _ refl refl (below _ refl refl (below _ refl refl (at_root refl refl refl refl) refl refl) refl refl) refl refl) refl refl) refl refl) refl refl;
  };
  not_elsewhere = not_elsewhere;
  current_alone = none_at_first;
  without_pge = below _ refl refl (below _ refl refl (below _ refl refl (at_root refl refl refl refl) refl refl) refl refl) refl refl;
  none_without_pge = λ held h. none_global held (all_untagged 1 held h);
}
