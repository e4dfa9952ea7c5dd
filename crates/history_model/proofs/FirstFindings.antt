-- The first stale translation under a PCID, where a list has all that may be used of page 0.
use Rattle.std.proofs.Common.{◌≡◌, ℕ, zero, suc, true, List, [], ◌∷◌, Some, inl, inr, ap, arith, sym, ◌∙◌, subst}
use Rattle.std.proofs.lemmas.Option.{same_Some}
use Rattle.paging_model.specs.Counting.{IsIn}
use Rattle.paging_model.specs.Translations.{present_target}
use Rattle.paging_model.specs.declared.registers.Regs.{Regs}
use Rattle.history_model.specs.History.{History, regs, last_root, visited_pcids, memory, machine}
use Rattle.history_model.specs.CachedTranslations.{Held, MayHold, MayUse, frame_at}
use Rattle.history_model.specs.StaleTranslations.{IsStale, IsNotAfter, excess_over, held_target}
use Rattle.history_model.specs.WorkedTranslations.{finding}
use Rattle.history_model.specs.declared.caches.Finding.{Finding}

-- what a held entry grants beyond the present translation of page 0
abbrev pub beyond : History → Regs → ℕ → ℕ → Held → ℕ
beyond history known root level held =
    excess_over (present_target (memory history) (machine history) known root 0) (held_target known level 0 held)

-- a finding isn't after that of any page in a list
abbrev pub IsFirstOf : History → Regs → ℕ → Finding → List (ℕ × Held) → Type 0
IsFirstOf history known root found [] = Unit {0}
IsFirstOf history known root found (one ∷ rest) =
    (one.1.leaf ≡ true → IsNotAfter found (finding found.cpu 0 (frame_at one.0 0 one.1) (beyond history known root one.0 one.1)))
    × IsFirstOf history known root found rest

first_of : (history : History) (known : Regs) (root : ℕ) (found : Finding) (list : List (ℕ × Held)) (level : ℕ) (held : Held)
    → IsFirstOf history known root found list → IsIn (level, held) list → held.leaf ≡ true
    → IsNotAfter found (finding found.cpu 0 (frame_at level 0 held) (beyond history known root level held))
first_of history known root found [] level held all e leaf = absurd e
first_of history known root found (one ∷ rest) level held all (inl e) leaf =
    subst (λ (it : ℕ × Held). it.1.leaf ≡ true → IsNotAfter found (finding found.cpu 0 (frame_at it.0 0 it.1) (beyond history known root it.0 it.1)))
    (sym e) all.0 leaf
first_of history known root found (one ∷ rest) level held all (inr e) leaf = first_of history known root found rest level held all.1 e leaf

-- where PCID 0 is the only one, what is used is held under it
pub used_under_0 : (history : History) (p : ℕ) (list : List (ℕ × Held)) → visited_pcids history p ≡ 0 ∷ []
    → ((level : ℕ) (held : Held) → MayHold history p 0 level 0 held → IsIn (level, held) list)
    → (level : ℕ) (held : Held) → MayUse history p 0 level 0 held → IsIn (level, held) list
used_under_0 history p list visited held_in level held may =
    elim may.reaches [
      | inl e ↦ held_in level held (subst (λ n. MayHold history p n level 0 held) e may.held_there)
      | inr global ↦ elim (subst (λ pcids. IsIn may.under pcids) visited global.1) [
        | inl e ↦ held_in level held (subst (λ n. MayHold history p n level 0 held) e may.held_there)
        | inr none ↦ absurd none
      ]
    ]

module _ (history : History) (p c : ℕ) (known : Regs) (root : ℕ) (is_known : regs history p ≡ Some known) (is_root : last_root history p c ≡ Some root)
    (list : List (ℕ × Held)) (used_in : (level : ℕ) (held : Held) → MayUse history p c level 0 held → IsIn (level, held) list) where
  -- a finding of the processor under the PCID
  abbrev found : ℕ → ℕ → ℕ → Finding
  found page frame excess = record (finding p page frame excess) { pcid = c }

  module _ (least_frame least_excess : ℕ) (first : IsFirstOf history known root (found 0 least_frame least_excess) list) where
    first_at : (page frame excess : ℕ) → IsStale history (found page frame excess) → IsNotAfter (found 0 least_frame least_excess) (found page frame excess)
    first_at zero frame excess other =
        let least =
        first_of history known root (found 0 least_frame least_excess) list other.level other.held first (used_in other.level other.held other.may_use) other.may_use.leaf in
        let known_is : other.known ≡ known = same_Some _ _ (sym other.is_known ∙ is_known) in
        let root_is : other.root ≡ root = same_Some _ _ (sym other.is_root ∙ is_root) in
        let excess_is : excess ≡ beyond history known root other.level other.held =
        other.excess
        ∙ (ap (λ now. beyond history now other.root other.level other.held) known_is
        ∙ ap (λ now. beyond history known now other.level other.held) root_is) in
        subst (λ f. IsNotAfter (found 0 least_frame least_excess) (found 0 f excess)) (sym other.frame)
        (subst (λ e. IsNotAfter (found 0 least_frame least_excess) (found 0 (frame_at other.level 0 other.held) e)) (sym excess_is) least)
    first_at (suc page) frame excess other = inl (omega arith)

    pub is_first : (other : Finding) → other.cpu ≡ p → other.pcid ≡ c → IsStale history other → IsNotAfter (found 0 least_frame least_excess) other
    is_first other cpu pcid other_stale =
        let of_p : IsStale history (record other { cpu = p }) = subst (λ n. IsStale history (record other { cpu = n })) cpu other_stale in
        let of_c : IsStale history (found other.page other.frame other.excess) = subst (λ n. IsStale history (record other { cpu = p; pcid = n })) pcid of_p in
        first_at other.page other.frame other.excess of_c
