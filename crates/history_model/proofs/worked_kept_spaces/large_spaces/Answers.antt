-- Either way of a list and of a write by its premise.
use Rattle.std.proofs.Common.{◌≡◌, ℕ, List, [], ◌∷◌, Some, refl, inl, inr, sym, subst}
use Rattle.paging_model.specs.Memory.{Memory}
use Rattle.paging_model.specs.declared.registers.Regs.{Regs}
use Rattle.paging_model.specs.declared.spaces.SpaceKey.{SpaceKey}
use Rattle.history_model.specs.History.{History, next, memory, machine, regs}
use Rattle.history_model.specs.KeptSpaces.{AreKept, StayKept, WithinIn, KeptAfterList, space_of}
use Rattle.history_model.specs.declared.events.Event.TheVariants as event
use Rattle.history_model.proofs.worked_kept_spaces.large_spaces.Goals as goal

-- after a list of a processor whose registers are known
after_list : (history : History) (cpu : ℕ) (known : Regs) (earlier keys : List SpaceKey) → regs history cpu ≡ Some known
    → KeptAfterList (memory history) (machine history) (regs history cpu) earlier keys
    → KeptAfterList (memory history) (machine history) (Some known) earlier keys
after_list history cpu known earlier keys is_known = subst (λ those. KeptAfterList (memory history) (machine history) those earlier keys) is_known

as_before : (history : History) (cpu : ℕ) (known : Regs) (keys : List SpaceKey) → regs history cpu ≡ Some known
    → (WithinIn (memory history) (space_of (machine history) known) → ⊥) → AreKept (next history (event.List cpu)) keys → AreKept history keys
as_before history cpu known keys is_known not_within kept =
    elim (after_list history cpu known kept.0 keys is_known kept.2) [
      | inl large ↦ subst (λ those. AreKept history those) (sym large.1) kept.1
      | inr within ↦ absurd (not_within within.0)
    ]

goes : (memory : Memory) (key : SpaceKey) (keys : List SpaceKey) → (WithinIn memory key → ⊥) → StayKept memory (key ∷ []) keys → keys ≡ []
goes memory key keys not_within (inl large) = large.1
goes memory key keys not_within (inr kept) = absurd (not_within kept.1)

pub returns : goal.returns
returns c = record {
  by_a_list = λ history cpu known keys is_known large kept.
      (keys, kept, subst (λ those. KeptAfterList (memory history) (machine history) those keys keys) (sym is_known) (inl (large, refl)));
  by_a_list_alone = as_before;
  by_a_write = λ history at bytes key large kept. (_, kept, inl (large, refl));
  by_a_write_alone = λ history at bytes key keys not_within alone kept.
      goes (memory (next history (event.Write at bytes))) key keys not_within
      (subst (λ those. StayKept (memory (next history (event.Write at bytes))) those keys) (alone kept.0 kept.1) kept.2);
  others_stay = λ memory first large last is_within is_large last_within. inr (_, is_within, inl (is_large, inr (_, last_within, refl, refl)), refl);
}
