-- The references of the tables and the page itself are all that may be held.
use Rattle.std.proofs.Common.{ℕ, List, [], ◌∷◌, refl, inl, inr, ap, arith, sym}
use Rattle.std.proofs.lemmas.Bool.{false≢true}
use Rattle.paging_model.specs.Counting.{IsIn}
use Rattle.paging_model.specs.Entries.{entry_of, is_reserved}
use Rattle.paging_model.specs.Memory.{entry_at}
use Rattle.paging_model.specs.WorkedExamples.{small_regs}
use Rattle.history_model.specs.History.{start_of}
use Rattle.history_model.specs.CachedTranslations.{Held, MayHold, at_root, below, fill_of}
use Rattle.history_model.specs.WorkedTranslations.{large_page, page_at}
use Rattle.history_model.proofs.HeldEntries.{table_at, held_at_first}
use Rattle.history_model.proofs.worked_translations.large_pages.Goals as goal

entries : List (ℕ × Held)
entries = (4, table_at 0x2000) ∷ (3, table_at 0x3000) ∷ (2, page_at 0) ∷ []

none_at_1 : (held : Held) → IsIn (1, held) entries → ⊥
unfolding entries
none_at_1 held (inl e) = absurd (omega (arith, ap (λ one. one.0) e))
none_at_1 held (inr (inl e)) = absurd (omega (arith, ap (λ one. one.0) e))
none_at_1 held (inr (inr (inl e))) = absurd (omega (arith, ap (λ one. one.0) e))
none_at_1 held (inr (inr (inr e))) = e

all_held : (level : ℕ) (held : Held) → MayHold large_page 0 0 level 0 held → IsIn (level, held) entries
unfolding entry_of is_reserved entry_at fill_of entries
all_held = held_at_first 0 0 0 (start_of large_page) small_regs entries refl
    (λ _. (inl refl, (λ _. inr (inl refl), (λ _. inr (inr (inl refl)), (λ e. absurd (false≢true (sym e)), tt)))))

pub returns : goal.returns
unfolding entry_of is_reserved entry_at fill_of
returns c = record {
  held = below _ refl refl (below _ refl refl (at_root refl refl refl refl) refl refl) refl refl;
  nothing_below = λ held h. none_at_1 held (all_held 1 held h);
}
