-- INVLPG removes the translation of page 0, and the present tables make none of it; all others stand.
use Rattle.std.proofs.Common.{◌≡◌, ℕ, true, false, refl, inl, inr, sym, ◌∙◌, subst}
use Rattle.std.proofs.lemmas.Bool.{false≢true}
use Rattle.std.proofs.lemmas.Option.{same_Some}
use Rattle.paging_model.specs.AccessRights.{is_granted}
use Rattle.paging_model.specs.Entries.{entry_of, is_reserved}
use Rattle.paging_model.specs.LinearAddress.{IsPage}
use Rattle.paging_model.specs.Memory.{entry_at}
use Rattle.paging_model.specs.Pointers.{aim_of}
use Rattle.paging_model.specs.Walking.{walk, walk_from}
use Rattle.paging_model.specs.WorkedExamples.{small_regs}
use Rattle.paging_model.specs.declared.registers.Regs.{Regs}
use Rattle.paging_model.proofs.SmallTables.{first_address}
use Rattle.history_model.specs.History.{start_of, memory, machine}
use Rattle.history_model.specs.Invalidations.{kills}
use Rattle.history_model.specs.CachedTranslations.{Held, MayHold, MayUse, cache_key}
use Rattle.history_model.specs.StaleTranslations.{NoneStale}
use Rattle.history_model.specs.WorkedFindings.{after_invlpg}
use Rattle.history_model.specs.WorkedTranslations.{two_pages, with_first_entry}
use Rattle.history_model.specs.declared.events.Event.TheVariants as event
use Rattle.history_model.proofs.HeldPages.{SmallHeld, of_pml4, of_pdpt, of_pd, of_first, of_second, fits_at_first, fits_at_next, makes_small, small_top, IsFirst, IsFirst-leaf, IsFirst-given}
use Rattle.history_model.proofs.JustifiedPages.{none_stale}
use Rattle.history_model.proofs.KnownTables.{two_pages-tables, one_page-tables}
use Rattle.history_model.proofs.worked_findings.invlpg.Goals as goal

-- no translation of page 0
abbrev IsNone : Held → Type 0
IsNone held = ⊥

module _ (x : ℕ) where
  at_first : (level : ℕ) (held : Held) → MayHold two_pages 0 0 level x held → SmallHeld x IsFirst level held
  at_first =
      fits_at_first 0 0 x (SmallHeld x IsFirst) (start_of two_pages)
      (makes_small 0 0 x two_pages small_regs IsFirst two_pages-tables refl refl IsFirst-leaf IsFirst-given
      (small_top (memory two_pages) (machine two_pages) small_regs refl two_pages-tables IsFirst IsFirst-leaf IsFirst-given x))

  -- the first translation stays, and no other is made in its place
  at_second : (level : ℕ) (held : Held) → MayHold (with_first_entry 0) 0 0 level x held → SmallHeld x IsFirst level held
  at_second =
      fits_at_next 0 0 x (SmallHeld x IsFirst) two_pages _
      (makes_small 0 0 x (with_first_entry 0) small_regs IsFirst one_page-tables refl refl IsFirst-leaf (λ held made. absurd (cc))
      (small_top (memory (with_first_entry 0)) (machine two_pages) small_regs refl one_page-tables IsFirst IsFirst-leaf (λ held made. absurd (cc)) x))
      (λ known level held is_known before spared. at_first level held before)

  spared_by_invlpg : IsPage false x → (known : Regs) (level : ℕ) (held : Held) → known ≡ small_regs → SmallHeld x IsFirst level held
      → kills (event.Invlpg 0 0x0) 0 known (cache_key 0 level x held) ≡ false → SmallHeld x IsNone level held
  unfolding kills
  spared_by_invlpg page known level held known_is (of_pml4 level_is held_is four) spared = of_pml4 level_is held_is four
  spared_by_invlpg page known level held known_is (of_pdpt level_is held_is four three) spared = of_pdpt level_is held_is four three
  spared_by_invlpg page known level held known_is (of_pd level_is held_is four three two) spared = of_pd level_is held_is four three two
  spared_by_invlpg page known level held known_is (of_first level_is held_is four three two one) spared =
      let x_is = first_address x page four three two one in
      let removed : kills (event.Invlpg 0 0x0) 0 known (cache_key 0 level x held) ≡ true = rw (known_is, level_is, held_is, x_is) refl in
      absurd (false≢true (sym spared ∙ removed))
  spared_by_invlpg page known level held known_is (of_second level_is held_is four three two one) spared = of_second level_is held_is four three two one

  at_last : IsPage false x → (level : ℕ) (held : Held) → MayHold after_invlpg 0 0 level x held → SmallHeld x IsNone level held
  at_last page =
      fits_at_next 0 0 x (SmallHeld x IsNone) (with_first_entry 0) _
      (makes_small 0 0 x after_invlpg small_regs IsNone one_page-tables refl refl (λ held none. absurd none) (λ held made. absurd (cc))
      (small_top (memory (with_first_entry 0)) (machine two_pages) small_regs refl one_page-tables IsNone (λ held none. absurd none) (λ held made. absurd (cc)) x))
      (λ known level held is_known before spared.
      spared_by_invlpg page known level held (same_Some _ _ (sym is_known)) (at_second level held before) spared)

-- under PCID 0, the only one
under_0 : (page level : ℕ) (held : Held) (may : MayUse after_invlpg 0 0 level page held) → may.under ≡ 0
under_0 page level held may = elim may.reaches [ inl e ↦ e | inr g ↦ elim g.1 [ inl e ↦ e | inr e ↦ absurd e ] ]

none : NoneStale after_invlpg 0 0
unfolding entry_of is_reserved entry_at walk walk_from is_granted aim_of
none =
    none_stale after_invlpg 0 0 small_regs IsNone refl refl refl
    (λ page level held is_page may. at_last page is_page level held (subst (λ c. MayHold after_invlpg 0 c level page held) (under_0 page level held may) may.held_there))
    (λ held none. absurd none) refl

pub returns : goal.returns
returns c = record { none = none }
