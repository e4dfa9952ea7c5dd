-- Each translation is made from the root 0x1000, which PCIDs 0 and 1 had last; under PCID 2 none is made.
use Rattle.std.proofs.Common.{◌≡◌, ℕ, false, Some, refl, inl, inr, sym, ap, ◌∙◌, subst, arith}
use Rattle.std.proofs.lemmas.Bool.{false≢true}
use Rattle.paging_model.specs.AccessRights.{is_granted}
use Rattle.paging_model.specs.Entries.{entry_of, is_reserved, root_bits}
use Rattle.paging_model.specs.Memory.{entry_at}
use Rattle.paging_model.specs.Pointers.{aim_of}
use Rattle.paging_model.specs.Registers.{pcid_of}
use Rattle.paging_model.specs.Walking.{walk, walk_from}
use Rattle.paging_model.specs.WorkedExamples.{small_regs}
use Rattle.paging_model.specs.declared.registers.RegChange.TheVariants as change
use Rattle.paging_model.specs.declared.registers.Regs.{Regs}
use Rattle.history_model.specs.History.{History, begun, next, memory, machine, regs, last_root}
use Rattle.history_model.specs.CachedTranslations.{Held, MayHold, MayUse}
use Rattle.history_model.specs.StaleTranslations.{NoneStale}
use Rattle.history_model.specs.WorkedHistories.{small_start, three_pcids}
use Rattle.history_model.specs.declared.events.Event.TheVariants as event
use Rattle.history_model.proofs.HeldPages.{Makes, SmallHeld, of_pml4, of_pdpt, of_pd, of_first, of_second, fits_at_first, fits_at_next, makes_small, small_top, void_made, IsFirst, IsFirst-leaf, IsFirst-given}
use Rattle.history_model.proofs.JustifiedPages.{none_stale}
use Rattle.history_model.proofs.KnownTables.{small_core, small_core-other}
use Rattle.history_model.proofs.worked_findings.last_roots.Goals as goal

start : History
start = begun small_start

with_pcids : History
with_pcids = next start (event.Set 0 (change.Cr4 0x20020))

in_pcid_1 : History
in_pcid_1 = next with_pcids (event.Set 0 (change.Cr3 0x1001))

tagged : ℕ → Regs
tagged cr3 = record small_regs { cr3 = cr3; cr4 = 0x20020 }

-- each of the four moments, by what it makes
module _ (p c x : ℕ) (Fits : ℕ → Held → Type 0) (at_start : Makes p c x Fits start) (at_first : Makes p c x Fits with_pcids)
    (at_second : Makes p c x Fits in_pcid_1) (at_last : Makes p c x Fits three_pcids) where
  all_fit : (level : ℕ) (held : Held) → MayHold three_pcids p c level x held → Fits level held
  unfolding start with_pcids in_pcid_1
  all_fit =
      fits_at_next p c x Fits in_pcid_1 _ at_last
      (λ known level held is_known before spared.
      fits_at_next p c x Fits with_pcids _ at_second
      (λ known level held is_known before spared.
      fits_at_next p c x Fits start _ at_first
      (λ known level held is_known before spared. fits_at_first p c x Fits small_start at_start level held before) level held before) level held before)

module _ (c x : ℕ) where
  held_of_0 : (level : ℕ) (held : Held) → MayHold three_pcids 0 c level x held → SmallHeld x IsFirst level held
  unfolding start with_pcids in_pcid_1 tagged
  held_of_0 =
      all_fit 0 c x (SmallHeld x IsFirst)
      (makes_small 0 c x start small_regs IsFirst small_core refl refl IsFirst-leaf IsFirst-given
      (small_top (memory start) (machine start) small_regs refl small_core IsFirst IsFirst-leaf IsFirst-given x))
      (makes_small 0 c x with_pcids (tagged 0x1000) IsFirst small_core refl refl IsFirst-leaf IsFirst-given
      (small_top (memory start) (machine start) (tagged 0x1000) refl small_core IsFirst IsFirst-leaf IsFirst-given x))
      (makes_small 0 c x in_pcid_1 (tagged 0x1001) IsFirst small_core refl refl IsFirst-leaf IsFirst-given
      (small_top (memory start) (machine start) (tagged 0x1001) refl small_core IsFirst IsFirst-leaf IsFirst-given x))
      (makes_small 0 c x three_pcids (tagged 0x8002) IsFirst small_core refl refl IsFirst-leaf IsFirst-given
      (λ held made. absurd (void_made (memory start) (machine start) (tagged 0x8002) refl 4 x 0x8000 root_bits held (small_core-other x) made)))

  held_of_1 : (level : ℕ) (held : Held) → MayHold three_pcids 1 c level x held → SmallHeld x IsFirst level held
  unfolding start with_pcids in_pcid_1
  held_of_1 =
      let top = small_top (memory start) (machine start) small_regs refl small_core IsFirst IsFirst-leaf IsFirst-given x in
      all_fit 1 c x (SmallHeld x IsFirst)
      (makes_small 1 c x start small_regs IsFirst small_core refl refl IsFirst-leaf IsFirst-given top)
      (makes_small 1 c x with_pcids small_regs IsFirst small_core refl refl IsFirst-leaf IsFirst-given top)
      (makes_small 1 c x in_pcid_1 small_regs IsFirst small_core refl refl IsFirst-leaf IsFirst-given top)
      (makes_small 1 c x three_pcids small_regs IsFirst small_core refl refl IsFirst-leaf IsFirst-given top)

-- a moment in another PCID than 2, and the last one
elsewhere : (x : ℕ) (history : History) (known : Regs) → regs history 0 ≡ Some known → (2 ≡ pcid_of known → ⊥) → Makes 0 2 x (λ level held. ⊥) history
elsewhere x history known is_known differs = record {
  known = known;
  is_known = is_known;
  at_top = λ held current made. differs current;
  lower = λ level above held current none references made. none;
}

none_held : (x level : ℕ) (held : Held) → MayHold three_pcids 0 2 level x held → ⊥
unfolding start with_pcids in_pcid_1 tagged
none_held x =
    all_fit 0 2 x (λ level held. ⊥)
    (elsewhere x start small_regs refl (λ e. absurd (omega (arith, e))))
    (elsewhere x with_pcids (tagged 0x1000) refl (λ e. absurd (omega (arith, e))))
    (elsewhere x in_pcid_1 (tagged 0x1001) refl (λ e. absurd (omega (arith, e))))
    (record {
      known = tagged 0x8002;
      is_known = refl;
      at_top = λ held current made. void_made (memory start) (machine start) (tagged 0x8002) refl 4 x 0x8000 root_bits held (small_core-other x) made;
      lower = λ level above held current none references made. none;
    })

of_pcid : (c : ℕ) → last_root three_pcids 0 c ≡ Some 0x1000 → NoneStale three_pcids 0 c
unfolding entry_of is_reserved entry_at walk walk_from is_granted aim_of tagged
of_pcid c is_root =
    none_stale three_pcids 0 c (tagged 0x8002) IsFirst refl refl is_root (λ page level held is_page may. held_of_0 may.under page level held may.held_there)
    (λ held is_first. rw is_first refl) refl

of_other : NoneStale three_pcids 1 0
unfolding entry_of is_reserved entry_at walk walk_from is_granted aim_of
of_other =
    none_stale three_pcids 1 0 small_regs IsFirst refl refl refl (λ page level held is_page may. held_of_1 may.under page level held may.held_there)
    (λ held is_first. rw is_first refl) refl

-- what is used under PCID 2 is held under it, since nothing is global
none_global : (x level : ℕ) (held : Held) → SmallHeld x IsFirst level held → held.global ≡ false
none_global x level held (of_pml4 level_is held_is four) = ap (λ (it : Held). it.global) held_is
none_global x level held (of_pdpt level_is held_is four three) = ap (λ (it : Held). it.global) held_is
none_global x level held (of_pd level_is held_is four three two) = ap (λ (it : Held). it.global) held_is
none_global x level held (of_first level_is held_is four three two one) = ap (λ (it : Held). it.global) held_is
none_global x level held (of_second level_is held_is four three two one) = ap (λ (it : Held). it.global) held_is

none_used : (page level : ℕ) (held : Held) → MayUse three_pcids 0 2 level page held → ⊥
none_used page level held may =
    elim may.reaches [
      | inl under_is ↦ none_held page level held (subst (λ c. MayHold three_pcids 0 c level page held) under_is may.held_there)
      | inr global ↦ absurd (false≢true (sym (none_global page level held (held_of_0 may.under page level held may.held_there)) ∙ global.0))
    ]

of_pcid_2 : NoneStale three_pcids 0 2
of_pcid_2 other cpu pcid stale =
    none_used other.page stale.level stale.held
    (subst (λ n. MayUse three_pcids 0 n stale.level other.page stale.held) pcid
    (subst (λ n. MayUse three_pcids n other.pcid stale.level other.page stale.held) cpu stale.may_use))

pub returns : goal.returns
returns c = record { none = inl (of_pcid 0 refl, inl (of_pcid 1 refl, inl (of_pcid_2, inl (of_other, refl)))) }
