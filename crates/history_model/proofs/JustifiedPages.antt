-- No translation of small tables is stale where the last root's tables still map the pages so.
use Rattle.std.proofs.Common.{◌≡◌, ℕ, true, false, inl, inr, Some, refl, sym, ap, ◌∙◌, subst}
use Rattle.std.proofs.lemmas.Bool.{false≢true}
use Rattle.std.proofs.lemmas.Option.{same_Some}
use Rattle.paging_model.specs.LinearAddress.{IsPage}
use Rattle.paging_model.specs.Registers.{la57}
use Rattle.paging_model.specs.Translations.{Target, present_target}
use Rattle.paging_model.specs.WorkedExamples.{no_write}
use Rattle.paging_model.specs.declared.registers.Regs.{Regs}
use Rattle.paging_model.proofs.SmallTables.{first_address, second_address}
use Rattle.history_model.specs.History.{History, memory, machine, regs, last_root}
use Rattle.history_model.specs.CachedTranslations.{Held, MayUse}
use Rattle.history_model.specs.StaleTranslations.{IsStale, NoneStale, Exceeds, held_target}
use Rattle.history_model.specs.WorkedTranslations.{page_at}
use Rattle.history_model.specs.declared.caches.Finding.{Finding}
use Rattle.history_model.proofs.HeldPages.{SmallHeld, of_pml4, of_pdpt, of_pd, of_first, of_second}

not_over_itself : (target : Target ℕ) → Exceeds (Some target) target → ⊥
not_over_itself target (inl differs) = differs refl
not_over_itself target (inr more) = absurd (false≢true (sym more.2 ∙ more.1))

module _ (history : History) (p c : ℕ) (known : Regs) (First : Held → Type 0) (is_known : regs history p ≡ Some known) (four_levels : la57 known ≡ false)
    (is_root : last_root history p c ≡ Some 0x1000)
    (held_small : (page level : ℕ) (held : Held) → IsPage false page → MayUse history p c level page held → SmallHeld page First level held) where
  -- the translation is the present one
  abbrev IsPresent : ℕ → ℕ → Held → Type 0
  IsPresent level page held = present_target (memory history) (machine history) known 0x1000 page ≡ Some (held_target known level page held)

  justified : (finding : Finding) (stale : IsStale history finding) → stale.known ≡ known → stale.root ≡ 0x1000 → IsPresent stale.level finding.page stale.held → ⊥
  justified finding stale known_is root_is present =
      let granted : Target ℕ = held_target known stale.level finding.page stale.held in
      let at_known : Exceeds (present_target (memory history) (machine history) known stale.root finding.page) granted =
      subst (λ now. Exceeds (present_target (memory history) (machine history) now stale.root finding.page) (held_target now stale.level finding.page stale.held)) known_is stale.exceeds in
      let at_root : Exceeds (present_target (memory history) (machine history) known 0x1000 finding.page) granted =
      subst (λ root. Exceeds (present_target (memory history) (machine history) known root finding.page) granted) root_is at_known in
      not_over_itself granted (subst (λ there. Exceeds there granted) present at_root)

  module _ (first_present : (held : Held) → First held → IsPresent 1 0 held) (second_present : IsPresent 1 0x1000 (record (page_at 0x6000) { bits = no_write })) where
    not_stale : (finding : Finding) → regs history finding.cpu ≡ Some known → last_root history finding.cpu finding.pcid ≡ Some 0x1000
        → ((level : ℕ) (held : Held) → IsPage false finding.page → MayUse history finding.cpu finding.pcid level finding.page held → SmallHeld finding.page First level held)
        → IsStale history finding → ⊥
    not_stale finding knows roots small stale =
        let known_is : stale.known ≡ known = same_Some _ _ (sym stale.is_known ∙ knows) in
        let root_is : stale.root ≡ 0x1000 = same_Some _ _ (sym stale.is_root ∙ roots) in
        let is_page : IsPage false finding.page = subst (λ five. IsPage five finding.page) (ap la57 known_is ∙ four_levels) stale.page in
        let leaf : stale.held.leaf ≡ true = stale.may_use.leaf in
        elim (small stale.level stale.held is_page stale.may_use) [
          | of_pml4 level_is held_is four ↦ absurd (false≢true (sym (ap (λ (it : Held). it.leaf) held_is) ∙ leaf))
          | of_pdpt level_is held_is four three ↦ absurd (false≢true (sym (ap (λ (it : Held). it.leaf) held_is) ∙ leaf))
          | of_pd level_is held_is four three two ↦ absurd (false≢true (sym (ap (λ (it : Held). it.leaf) held_is) ∙ leaf))
          | of_first level_is is_first four three two one ↦
              let page_is = first_address finding.page is_page four three two one in
              let at_level : IsPresent stale.level 0 stale.held = subst (λ l. IsPresent l 0 stale.held) (sym level_is) (first_present stale.held is_first) in
              justified finding stale known_is root_is (subst (λ x. IsPresent stale.level x stale.held) (sym page_is) at_level)
          | of_second level_is held_is four three two one ↦
              let page_is = second_address finding.page is_page four three two one in
              let at_held : IsPresent 1 0x1000 stale.held = subst (λ held. IsPresent 1 0x1000 held) (sym held_is) second_present in
              let at_level : IsPresent stale.level 0x1000 stale.held = subst (λ l. IsPresent l 0x1000 stale.held) (sym level_is) at_held in
              justified finding stale known_is root_is (subst (λ x. IsPresent stale.level x stale.held) (sym page_is) at_level)
        ]

    pub none_stale : NoneStale history p c
    none_stale other cpu pcid stale =
        not_stale other (ap (λ n. regs history n) cpu ∙ is_known)
        (ap (λ n. last_root history n other.pcid) cpu ∙ (ap (λ n. last_root history p n) pcid ∙ is_root))
        (λ level held is_page may.
        held_small other.page level held is_page
        (subst (λ n. MayUse history p n level other.page held) pcid (subst (λ n. MayUse history n other.pcid level other.page held) cpu may)))
        stale
