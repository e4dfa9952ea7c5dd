-- Spaces whose top tables aren't known, in the memory of the small core: each list puts its space first, since it is
-- within the limits.
use Rattle.std.proofs.Common.{◌≡◌, ℕ, ◌≤◌, ◌⊎◌, List, [], ◌∷◌, None, refl, inl, inr, ap, ◌∙◌, arith}
use Rattle.paging_model.specs.Memory.{entry_at}
use Rattle.paging_model.specs.Walking.{entry_address}
use Rattle.paging_model.specs.declared.registers.Settings.{Settings}
use Rattle.paging_model.specs.declared.spaces.SpaceKey.{SpaceKey}
use Rattle.history_model.specs.History.{begun, memory}
use Rattle.history_model.specs.KeptSpaces.{AreKept, TooLargeIn, WithinIn, listed_first}
use Rattle.history_model.specs.WorkedKeptSpaces.{unknown_start, list_of_one, space_at}
use Rattle.history_model.proofs.EmptyRoots.{IsNothing, within_limits, not_too_large, unknown_entry, unknown_after}

-- memory from 0x8000 on isn't known
pub unknown : (a : ℕ) → 0x8000 ≤ a → memory (begun unknown_start) a ≡ None
unknown a after =
    unknown_after unknown_start.extents a
    (omega arith, (omega arith, (omega arith, (omega arith, (omega arith, (omega arith, tt))))))

-- nothing is in such a table
pub nothing : (root level x : ℕ) → 0x8000 ≤ root → IsNothing (entry_at (memory (begun unknown_start)) (entry_address level x root))
nothing root level x after = unknown_entry (memory (begun unknown_start)) (entry_address level x root) (unknown (entry_address level x root) (omega arith))

pub within : (settings : Settings) (root : ℕ) → 0x8000 ≤ root → WithinIn (memory (begun unknown_start)) (record { root = root; settings = settings })
within settings root after = within_limits (memory (begun unknown_start)) settings root (λ level x. nothing root level x after)

-- a list of such a space puts it first
pub after_list : (key : SpaceKey) (earlier keys : List SpaceKey) → 0x8000 ≤ key.root
    → (TooLargeIn (memory (begun unknown_start)) key × (keys ≡ earlier)) ⊎ (WithinIn (memory (begun unknown_start)) key × (keys ≡ listed_first key earlier))
    → keys ≡ listed_first key earlier
after_list key earlier keys after (inl large) =
    absurd (not_too_large (memory (begun unknown_start)) key.settings key.root (λ level x. nothing key.root level x after) large.0)
after_list key earlier keys after (inr is_within) = is_within.1

pub one : AreKept list_of_one (space_at 0x8000 ∷ [])
one = (_, refl, inr (within _ 0x8000 (omega arith), refl))

pub one_alone : (keys : List SpaceKey) → AreKept list_of_one keys → keys ≡ space_at 0x8000 ∷ []
one_alone keys kept = after_list (space_at 0x8000) kept.0 keys (omega arith) kept.2 ∙ ap (listed_first (space_at 0x8000)) kept.1
