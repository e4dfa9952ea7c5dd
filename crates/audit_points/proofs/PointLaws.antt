-- What is stale under a PCID, by the PCID under which it is held.
use Rattle.std.proofs.Common.{◌≡◌, ℕ, ◌⊎◌, inl, inr, ◌&&◌, Bool, true, false, Some, refl, sym, ap, ◌∙◌, subst, arith}
use Rattle.std.specs.Prelude.{◌==◌, not}
use Rattle.std.proofs.lemmas.Bool.Decides.{nat_tests}
use Rattle.paging_model.specs.LinearAddress.{IsPage}
use Rattle.paging_model.specs.Registers.{la57, settings_of}
use Rattle.paging_model.specs.Translations.{present_target}
use Rattle.paging_model.specs.declared.registers.Regs.{Regs}
use Rattle.paging_model.specs.declared.registers.Settings.{Settings}
use Rattle.history_model.specs.CachedTranslations.{Held, MayUse}
use Rattle.history_model.specs.History.{History, last_root, machine, memory, regs}
use Rattle.history_model.specs.StaleTranslations.{Exceeds, IsStale, excess_over, held_target}
use Rattle.audit_laws.specs.Firsts.{finding_at}
use Rattle.audit_laws.specs.declared.stale_pages.StalePage.{StalePage}
use Rattle.stale_audit.specs.Facts.{Facts}
use Rattle.audit_points.specs.StandingFacts.{IsStaleUnderSome}
use Rattle.audit_points.proofs.CanonicalLaws.{top-pages}

some-regs : (one other : Regs) → Some one ≡ Some other → one ≡ other
some-regs one other h = cc

some-root : (one other : ℕ) → Some one ≡ Some other → one ≡ other
some-root one other h = cc

module _ (facts : Facts) (history : History) (c : ℕ) (one : StalePage) (is_known : regs history facts.host.number ≡ Some facts.host.regs)
    (settings_is : facts.settings ≡ settings_of facts.host.regs (machine history))
    (home_is : last_root history facts.host.number c ≡ Some facts.home) where
  five-is : facts.settings.la57 ≡ la57 facts.host.regs
  five-is = ap (λ (s : Settings). s.la57) settings_is

  asked-own : (held : Held) (under : ℕ) → under ≡ c → (not (under == c) && not held.global) ≡ false
  asked-own held under own = let same : (under == c) ≡ true = grind (arith, nat_tests, own) in rw same refl

  asked-global : (held : Held) (b : Bool) → held.global ≡ true → (b && not held.global) ≡ false
  asked-global held true global = rw global refl
  asked-global held false global = refl

  pub stale-some : IsStale history (finding_at facts.host.number c one) → IsStaleUnderSome facts history c one
  stale-some s =
      let known : s.known ≡ facts.host.regs = some-regs s.known facts.host.regs (sym s.is_known ∙ is_known) in
      let root : s.root ≡ facts.home = some-root s.root facts.home (sym s.is_root ∙ home_is) in
      let may : MayUse history facts.host.number c s.level one.page s.held = s.may_use in
      let page : IsPage facts.settings.la57 one.page = subst (λ five. IsPage five one.page) (sym five-is) (subst (λ (k : Regs). IsPage (la57 k) one.page) known s.page) in
      record {
        under = may.under;
        visited = elim may.reaches [ inl own ↦ inl own | inr other ↦ inr other.1 ];
        stale = record {
          page = (top-pages facts.settings.la57 one.page).1 page;
          k = s.level;
          held = s.held;
          leaf = may.leaf;
          may_hold = may.held_there;
          asked = elim may.reaches [
            | inl own ↦ asked-own s.held may.under own
            | inr other ↦ asked-global s.held (not (may.under == c)) other.0
          ];
          exceeds = subst (λ (k : Regs). Exceeds (present_target (memory history) (machine history) k facts.home one.page) (held_target k s.level one.page s.held)) known
              (subst (λ r. Exceeds (present_target (memory history) (machine history) s.known r one.page) (held_target s.known s.level one.page s.held)) root s.exceeds);
          frame = s.frame;
          excess = s.excess ∙ (ap (λ r. excess_over (present_target (memory history) (machine history) s.known r one.page) (held_target s.known s.level one.page s.held)) root
              ∙ ap (λ (k : Regs). excess_over (present_target (memory history) (machine history) k facts.home one.page) (held_target k s.level one.page s.held)) known);
        };
      }

  pub some-stale : IsStaleUnderSome facts history c one → IsStale history (finding_at facts.host.number c one)
  some-stale s = record {
    known = facts.host.regs;
    is_known = is_known;
    root = facts.home;
    is_root = home_is;
    page = subst (λ five. IsPage five one.page) five-is ((top-pages facts.settings.la57 one.page).0 s.stale.page);
    level = s.stale.k;
    held = s.stale.held;
    may_use = record { leaf = s.stale.leaf; under = s.under; reaches = by_test (s.under == c) refl s.stale.asked; held_there = s.stale.may_hold };
    exceeds = s.stale.exceeds;
    frame = s.stale.frame;
    excess = s.stale.excess;
  }
    where
      global-is : (b : Bool) → (true && not b) ≡ false → b ≡ true
      global-is true h = refl
      global-is false h = absurd (cc)

      by_test : (b : Bool) → (s.under == c) ≡ b → (not b && not s.stale.held.global) ≡ false
          → (s.under ≡ c) ⊎ ((s.stale.held.global ≡ true) × Rattle.paging_model.specs.Counting.IsIn s.under (Rattle.history_model.specs.History.visited_pcids history facts.host.number))
      by_test true is h = inl (grind (arith, nat_tests, is))
      by_test false is h = elim s.visited [ inl own ↦ inl own | inr in_list ↦ inr (global-is s.stale.held.global h, in_list) ]
