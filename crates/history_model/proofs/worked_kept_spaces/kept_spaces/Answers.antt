-- Each space is within the limits, since its top table isn't known; so each list puts its space first, and there is no
-- other way.
use Rattle.std.proofs.Common.{◌≡◌, ℕ, ◌≤◌, List, [], ◌∷◌, refl, inl, inr, ap, ◌∙◌, subst, arith}
use Rattle.paging_model.specs.Memory.{entry_at}
use Rattle.paging_model.specs.Walking.{entry_address}
use Rattle.paging_model.specs.declared.registers.Settings.{Settings}
use Rattle.paging_model.specs.declared.spaces.SpaceKey.{SpaceKey}
use Rattle.history_model.specs.History.{begun, memory}
use Rattle.history_model.specs.KeptSpaces.{AreKept, StayKept, WithinIn, listed_first}
use Rattle.history_model.specs.WorkedHistories.{zeros}
use Rattle.history_model.specs.WorkedKeptSpaces.{unknown_start, list_of_two, list_of_first, list_of_another_processor, list_of_three, list_and_write, space_at, space_without_nxe}
use Rattle.history_model.proofs.EmptyRoots.{IsNothing, within_limits, not_too_large, unknown_entry, still_unknown}
use Rattle.history_model.proofs.UnknownTables.{unknown, within, after_list, one, one_alone}
use Rattle.history_model.proofs.worked_kept_spaces.kept_spaces.Goals as goal

-- nor is after the write
nothing_later : (root level x : ℕ) → 0x8000 ≤ root → IsNothing (entry_at (memory list_and_write) (entry_address level x root))
nothing_later root level x after =
    unknown_entry (memory list_and_write) (entry_address level x root) (still_unknown 0x4008 zeros (memory (begun unknown_start)) (entry_address level x root) (unknown (entry_address level x root) (omega arith)))

within_later : (settings : Settings) (root : ℕ) → 0x8000 ≤ root → WithinIn (memory list_and_write) (record { root = root; settings = settings })
within_later settings root after = within_limits (memory list_and_write) settings root (λ level x. nothing_later root level x after)

-- such spaces stay
abbrev AreAfter : List SpaceKey → Type 0
AreAfter [] = Unit {0}
AreAfter (one ∷ rest) = (0x8000 ≤ one.root) × AreAfter rest

all_stay : (those keys : List SpaceKey) → AreAfter those → StayKept (memory list_and_write) those keys → keys ≡ those
all_stay [] keys after stay = stay
all_stay (one ∷ rest) keys after (inl large) =
    absurd (not_too_large (memory list_and_write) one.settings one.root (λ level x. nothing_later one.root level x after.0) large.0)
all_stay (one ∷ rest) keys after (inr stay) = stay.3 ∙ ap (λ others. one ∷ others) (all_stay rest stay.0 after.1 stay.2)

two : AreKept list_of_two (space_at 0x9000 ∷ space_at 0x8000 ∷ [])
two = (_, (_, one, refl), inr (within _ 0x9000 (omega arith), refl))

first_again : AreKept list_of_first (space_at 0x8000 ∷ space_at 0x9000 ∷ [])
first_again = (_, (_, two, refl), inr (within _ 0x8000 (omega arith), refl))

another_processor : AreKept list_of_another_processor (space_at 0x8000 ∷ space_at 0x9000 ∷ [])
another_processor = (_, first_again, inr (within _ 0x8000 (omega arith), refl))

three : AreKept list_of_three (space_without_nxe 0x8000 ∷ space_at 0x8000 ∷ space_at 0x9000 ∷ [])
three = (_, (_, another_processor, refl), inr (within _ 0x8000 (omega arith), refl))

two_alone : (keys : List SpaceKey) → AreKept list_of_two keys → keys ≡ space_at 0x9000 ∷ space_at 0x8000 ∷ []
two_alone keys kept =
    after_list (space_at 0x9000) kept.0 keys (omega arith) kept.2
    ∙ ap (listed_first (space_at 0x9000)) (kept.1.2 ∙ one_alone kept.1.0 kept.1.1)

again_alone : (keys : List SpaceKey) → AreKept list_of_first keys → keys ≡ space_at 0x8000 ∷ space_at 0x9000 ∷ []
again_alone keys kept =
    after_list (space_at 0x8000) kept.0 keys (omega arith) kept.2
    ∙ ap (listed_first (space_at 0x8000)) (kept.1.2 ∙ two_alone kept.1.0 kept.1.1)

another_alone : (keys : List SpaceKey) → AreKept list_of_another_processor keys → keys ≡ space_at 0x8000 ∷ space_at 0x9000 ∷ []
another_alone keys kept =
    after_list (space_at 0x8000) kept.0 keys (omega arith) kept.2 ∙ ap (listed_first (space_at 0x8000)) (again_alone kept.0 kept.1)

three_alone : (keys : List SpaceKey) → AreKept list_of_three keys → keys ≡ space_without_nxe 0x8000 ∷ space_at 0x8000 ∷ space_at 0x9000 ∷ []
three_alone keys kept =
    after_list (space_without_nxe 0x8000) kept.0 keys (omega arith) kept.2
    ∙ ap (listed_first (space_without_nxe 0x8000)) (kept.1.2 ∙ another_alone kept.1.0 kept.1.1)

no_others : (keys : List SpaceKey) → AreKept list_and_write keys → keys ≡ space_without_nxe 0x8000 ∷ space_at 0x8000 ∷ space_at 0x9000 ∷ []
no_others keys kept =
    all_stay (space_without_nxe 0x8000 ∷ space_at 0x8000 ∷ space_at 0x9000 ∷ []) keys (omega arith, (omega arith, (omega arith, tt)))
    (subst (λ those. StayKept (memory list_and_write) those keys) (three_alone kept.0 kept.1) kept.2)

pub returns : goal.returns
returns c = record {
  none = refl;
  one = one;
  two = two;
  first_again = first_again;
  another_processor = another_processor;
  three = three;
  after_a_write = (
    _,
    three,
    inr (_, within_later _ 0x8000 (omega arith), inr (_, within_later _ 0x8000 (omega arith), inr (_, within_later _ 0x9000 (omega arith), refl, refl), refl), refl),
  );
  no_others = no_others;
}
