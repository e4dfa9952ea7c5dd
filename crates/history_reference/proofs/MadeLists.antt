-- What a list has, once all that is made of a level was added.
use Rattle.std.proofs.Common.{◌≡◌, ℕ, ◌⊎◌, ◌↔◌, inl, inr, Some, None, List, sym, ◌∙◌, subst}
use Rattle.std.specs.List.{filter_map}
use Rattle.paging_model.specs.Counting.{IsIn}
use Rattle.paging_model.specs.declared.registers.Regs.{Regs}
use Rattle.history_model.specs.History.{History}
use Rattle.history_reference.specs.CacheEntries.{HeldEntry}
use Rattle.history_reference.specs.HeldLists.{IsMadeOver, made_at_root, made_below}

-- one more is added
pub added_one : {A B C D E F : Type 0} → (A ↔ (B ⊎ C)) → (D ↔ (A ⊎ E)) → (F ↔ (C ⊎ E)) → D ↔ (B ⊎ F)
added_one was now all = (
  λ d. elim (now.0 d) [ inl a ↦ elim (was.0 a) [ inl b ↦ inl b | inr c ↦ inr (all.1 (inl c)) ] | inr e ↦ inr (all.1 (inr e)) ],
  elim [ inl b ↦ now.1 (inl (was.1 (inl b))) | inr f ↦ elim (all.0 f) [ inl c ↦ now.1 (inl (was.1 (inr c))) | inr e ↦ now.1 (inr e) ] ],
)

module _ (history : History) (known : Regs) (level x : ℕ) (list : List HeldEntry) (entry : HeldEntry) where
  -- nothing is made in the top table
  pub made_of_others : {Now : Type 0} → None ≡ made_at_root history known level x
      → (Now ↔ (IsIn entry list ⊎ IsIn entry (filter_map (made_below history known level x) list)))
      → Now ↔ (IsIn entry list ⊎ IsMadeOver history known level x list entry)
  made_of_others none now = (
    λ is_in. elim (now.0 is_in) [ inl before ↦ inl before | inr made ↦ inr (inr made) ],
    elim [
      | inl before ↦ now.1 (inl before)
      | inr over ↦ elim over [ inl at_root ↦ absurd (nothing (none ∙ at_root)) | inr made ↦ now.1 (inr made) ]
    ],
  )
    where
      nothing : None ≡ Some entry → ⊥
      nothing same = cc

  -- an entry is made in the top table
  pub made_of_all : {Now Later : Type 0} (root : HeldEntry) → Some root ≡ made_at_root history known level x
      → (Now ↔ (IsIn entry list ⊎ IsIn entry (filter_map (made_below history known level x) list)))
      → (Later ↔ (Now ⊎ (entry ≡ root)))
      → Later ↔ (IsIn entry list ⊎ IsMadeOver history known level x list entry)
  made_of_all root one now later = (
    λ is_in. elim (later.0 is_in) [
      | inl before ↦ elim (now.0 before) [ inl old ↦ inl old | inr made ↦ inr (inr made) ]
      | inr same ↦ inr (inl (subst (λ it. made_at_root history known level x ≡ Some it) (sym same) (sym one)))
    ],
    elim [
      | inl old ↦ later.1 (inl (now.1 (inl old)))
      | inr over ↦ elim over [ inl at_root ↦ later.1 (inr (only (one ∙ at_root))) | inr made ↦ later.1 (inl (now.1 (inr made))) ]
    ],
  )
    where
      only : Some root ≡ Some entry → entry ≡ root
      only same = cc
