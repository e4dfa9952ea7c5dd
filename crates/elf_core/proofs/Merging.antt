-- The changes of two lists as one, change by change.
use Rattle.std.proofs.Common.{◌≡◌, ◌≢◌, ℕ, ◌+◌, ◌<◌, ◌≤◌, ◌⊎◌, inl, inr, List, [], ◌∷◌, ◌++◌, min, Option, Some, None, refl, sym, ◌∙◌, ap, arith}
use Rattle.std.specs.Prelude.{All}
use Rattle.std.specs.Option.{option_or}
use Rattle.std.proofs.lemmas.Bool.{cases_lt}
use Rattle.std.proofs.lemmas.List.Elements.{All-push, All-weaker}
use Rattle.elf_core.specs.Changes.{owner_after, owner_at, first_from, next_from, AscendsFrom, AreChanges, IsRestAfter}
use Rattle.elf_core.specs.declared.changes.Change.{Change}
use Rattle.elf_core.specs.declared.changes.Rest.{Rest}
use Rattle.elf_core.proofs.ChangeLists.{owner_after-below, owner_after-push_above, owner_after-push_below, AscendsFrom-push}

-- the owner of an address by what is left
abbrev owner_by : Rest → ℕ → Option ℕ
owner_by rest a = owner_after rest.owner rest.changes.now a

-- the changes of both lists before an address are merged, and these rests are left
pub record IsMerged (first second changes : List Change) (left right : Rest) (low : ℕ) : Type 0 where
  pub left_ascends : AscendsFrom low left.owner left.changes.now
  pub right_ascends : AscendsFrom low right.owner right.changes.now
  pub left_owners : (a : ℕ) → low ≤ a → owner_at first a ≡ owner_by left a
  pub right_owners : (a : ℕ) → low ≤ a → owner_at second a ≡ owner_by right a
  pub ascends : AscendsFrom 0 None changes
  pub below : All (λ change. change.from < low) changes
  pub owners : (a : ℕ) → a < low → owner_at changes a ≡ option_or (owner_at first a) (owner_at second a)
  pub last : (a : ℕ) → low ≤ a → owner_at changes a ≡ option_or left.owner right.owner

-- none is merged yet
pub merged-begin : (left right : Rest) → left.owner ≡ None → right.owner ≡ None → AscendsFrom 0 None left.changes.now → AscendsFrom 0 None right.changes.now → IsMerged left.changes.now right.changes.now [] left right 0
merged-begin left right no_left no_right left_ascends right_ascends = record {
  left_ascends = rw no_left left_ascends;
  right_ascends = rw no_right right_ascends;
  left_owners = λ a from. rw no_left refl;
  right_owners = λ a from. rw no_right refl;
  ascends = tt;
  below = λ k d within. absurd (omega arith);
  owners = λ a before. absurd (omega arith);
  last = λ a from. rw (no_left, no_right) refl;
}

-- the next change of both: none is before it
next_is : (left right : List Change) (over under : Option ℕ) (low from : ℕ) → next_from left right ≡ Some from → AscendsFrom low over left → AscendsFrom low under right → (low ≤ from) × AscendsFrom from over left × AscendsFrom from under right
next_is [] [] over under low from is left right = absurd cc
next_is [] (r ∷ rs) over under low from is left right =
    let e : r.from ≡ from = cc in
    (omega (arith, right.0), tt, (omega arith, right.1, right.2))
next_is (l ∷ ls) [] over under low from is left right =
    let e : l.from ≡ from = cc in
    (omega (arith, left.0), (omega arith, left.1, left.2), tt)
next_is (l ∷ ls) (r ∷ rs) over under low from is left right =
    let e : min l.from r.from ≡ from = cc in
    (omega (arith, left.0, right.0), (omega arith, left.1, left.2), (omega arith, right.1, right.2))

pub next_of_one : (left right : List Change) (from : ℕ) → next_from left right ≡ Some from → (first_from left ≡ Some from) ⊎ (first_from right ≡ Some from)
next_of_one [] right from is = inr is
next_of_one (l ∷ ls) [] from is = inl is
next_of_one (l ∷ ls) (r ∷ rs) from is = elim (cases_lt l.from r.from) [
  | inl lt ↦ inl (let e : min l.from r.from ≡ l.from = omega arith in rw e at is)
  | inr ge ↦ inr (let e : min l.from r.from ≡ r.from = omega arith in rw e at is)
]

no_next : (left right : List Change) → next_from left right ≡ None → (left ≡ []) × (right ≡ [])
no_next [] [] is = (refl, refl)
no_next [] (r ∷ rs) is = absurd cc
no_next (l ∷ ls) [] is = absurd cc
no_next (l ∷ ls) (r ∷ rs) is = absurd cc

-- the address of a next change, and what is left after it
pub record IsStep (left right later others : Rest) (low from : ℕ) : Type 0 where
  pub above : low ≤ from
  pub left_above : AscendsFrom from left.owner left.changes.now
  pub right_above : AscendsFrom from right.owner right.changes.now
  pub left_after : IsRestAfter from left later
  pub right_after : IsRestAfter from right others

pub step_to_next : (first second changes : List Change) (left right later others : Rest) (low from : ℕ) → IsMerged first second changes left right low → next_from left.changes.now right.changes.now ≡ Some from → IsRestAfter from left later → IsRestAfter from right others → IsStep left right later others low from
step_to_next first second changes left right later others low from was is left_after right_after =
    let next = next_is left.changes.now right.changes.now left.owner right.owner low from is was.left_ascends was.right_ascends in
    record { above = next.0; left_above = next.1; right_above = next.2; left_after = left_after; right_after = right_after }

-- before the next change the owners stay
owners-before : (first second changes : List Change) (left right later others : Rest) (low from : ℕ) → IsMerged first second changes left right low → IsStep left right later others low from → (a : ℕ) → a < from → owner_at changes a ≡ option_or (owner_at first a) (owner_at second a)
owners-before first second changes left right later others low from was step a before = elim (cases_lt a low) [
  | inl below ↦ was.owners a below
  | inr above ↦
      let of_left = was.left_owners a above ∙ owner_after-below left.changes.now from a left.owner left.owner step.left_above before in
      let of_right = was.right_owners a above ∙ owner_after-below right.changes.now from a right.owner right.owner step.right_above before in
      rw (of_left, of_right) (was.last a above)
]

-- at it they are those of the rests
owners-at : (first second changes : List Change) (left right later others : Rest) (low from : ℕ) → IsMerged first second changes left right low → IsStep left right later others low from → (a : ℕ) → from ≤ a → a < from + 1 → option_or (owner_at first a) (owner_at second a) ≡ option_or later.owner others.owner
owners-at first second changes left right later others low from was step a above before =
    let of_left : owner_at first a ≡ later.owner = was.left_owners a (omega (arith, step.above)) ∙ sym (step.left_after.owners a above) ∙ owner_after-below later.changes.now (from + 1) a later.owner later.owner step.left_after.ascends before in
    let of_right : owner_at second a ≡ others.owner = was.right_owners a (omega (arith, step.above)) ∙ sym (step.right_after.owners a above) ∙ owner_after-below others.changes.now (from + 1) a others.owner others.owner step.right_after.ascends before in
    rw (of_left, of_right) refl

raised_below : (changes : List Change) (low high : ℕ) → low ≤ high → All (λ change. change.from < low) changes → All (λ change. change.from < high) changes
raised_below changes low high le below = All-weaker (λ change. change.from < low) (λ change. change.from < high) (λ change lower. omega arith) changes below

-- the owner stays
pub merged-kept : (first second changes : List Change) (left right later others : Rest) (low from : ℕ) → IsMerged first second changes left right low → IsStep left right later others low from → option_or later.owner others.owner ≡ option_or left.owner right.owner → IsMerged first second changes later others (from + 1)
merged-kept first second changes left right later others low from was step same = record {
  left_ascends = step.left_after.ascends;
  right_ascends = step.right_after.ascends;
  left_owners = λ a above. was.left_owners a (omega (arith, step.above)) ∙ sym (step.left_after.owners a (omega arith));
  right_owners = λ a above. was.right_owners a (omega (arith, step.above)) ∙ sym (step.right_after.owners a (omega arith));
  ascends = was.ascends;
  below = raised_below changes low (from + 1) (omega (arith, step.above)) was.below;
  owners = λ a before. elim (cases_lt a from) [
    | inl below ↦ owners-before first second changes left right later others low from was step a below
    | inr above ↦ was.last a (omega (arith, step.above)) ∙ sym same ∙ sym (owners-at first second changes left right later others low from was step a above before)
  ];
  last = λ a above. was.last a (omega (arith, step.above)) ∙ sym same;
}

-- the owner changes
pub merged-changed : (first second changes : List Change) (left right later others : Rest) (low from : ℕ) → IsMerged first second changes left right low → IsStep left right later others low from → option_or later.owner others.owner ≢ option_or left.owner right.owner → IsMerged first second (changes ++ record { from = from; owner = option_or later.owner others.owner } ∷ []) later others (from + 1)
merged-changed first second changes left right later others low from was step differs =
    let change : Change = record { from = from; owner = option_or later.owner others.owner } in
    record {
      left_ascends = step.left_after.ascends;
      right_ascends = step.right_after.ascends;
      left_owners = λ a above. was.left_owners a (omega (arith, step.above)) ∙ sym (step.left_after.owners a (omega arith));
      right_owners = λ a above. was.right_owners a (omega (arith, step.above)) ∙ sym (step.right_after.owners a (omega arith));
      ascends = AscendsFrom-push changes change 0 None was.ascends (omega arith) (raised_below changes low from step.above was.below) (λ same. differs (same ∙ was.last from step.above));
      below = All-push (λ earlier. earlier.from < from + 1) changes change (raised_below changes low (from + 1) (omega (arith, step.above)) was.below) (omega arith);
      owners = λ a before. elim (cases_lt a from) [
        | inl below ↦ owner_after-push_above changes change a None below ∙ owners-before first second changes left right later others low from was step a below
        | inr above ↦ owner_after-push_below changes change a None above ∙ sym (owners-at first second changes left right later others low from was step a above before)
      ];
      last = λ a above. owner_after-push_below changes change a None (omega arith);
    }

-- no change is left
pub merged-end : (first second changes : List Change) (left right : Rest) (low : ℕ) → IsMerged first second changes left right low → next_from left.changes.now right.changes.now ≡ None → AreChanges (λ a. option_or (owner_at first a) (owner_at second a)) changes
merged-end first second changes left right low was none =
    let ends = no_next left.changes.now right.changes.now none in
    record {
      ascends = was.ascends;
      owners = λ a. elim (cases_lt a low) [
        | inl below ↦ was.owners a below
        | inr above ↦
            let at_left : owner_at first a ≡ left.owner = was.left_owners a above ∙ ap (λ changes. owner_after left.owner changes a) ends.0 in
            let at_right : owner_at second a ≡ right.owner = was.right_owners a above ∙ ap (λ changes. owner_after right.owner changes a) ends.1 in
            rw (at_left, at_right) (was.last a above)
      ];
    }
