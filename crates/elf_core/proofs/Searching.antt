-- What a binary search of changes finds.
use Rattle.std.proofs.Common.{◌≡◌, ℕ, ◌+◌, ◌-◌, ◌^◌, ◌<◌, ◌≤◌, inl, inr, List, [], ◌∷◌, ◌++◌, length, take, drop, get_or, zero, suc, Option, None, refl, sym, ◌∙◌, ap, arith}
use Rattle.std.specs.Prelude.{All, nat_le, true, false, unwrap_or}
use Rattle.std.specs.List.Sorted.{IsNonDecreasingBy, IsPartitionPoint}
use Rattle.std.proofs.lemmas.Bool.{le-leb, leb-true, leb-false}
use Rattle.std.proofs.lemmas.List.{take-append-drop, get_or-take, get_or-drop, length-take-le, length-drop}
use Rattle.std.proofs.lemmas.List.Elements.{All-head, All-tail}
use Rattle.elf_core.specs.Changes.{owner_after, owner_at, last_owner, first_from, AscendsFrom, AreChanges, StaysUntil}
use Rattle.elf_core.specs.declared.changes.Change.{Change}
use Rattle.elf_core.proofs.ChangeLists.{owner_after-below}

-- changes before a place and from it on
owner_after-append : (passed left : List Change) (before : Option ℕ) (a : ℕ) → owner_after before (passed ++ left) a ≡ owner_after (owner_after before passed a) left a
owner_after-append [] left before a = refl
owner_after-append (change ∷ passed) left before a = owner_after-append passed left _ a

-- after changes that are all passed
owner_after-above : (passed : List Change) (before : Option ℕ) (a : ℕ) → All (λ change. change.from ≤ a) passed → owner_after before passed a ≡ last_owner before passed
owner_after-above [] before a passed = refl
owner_after-above (change ∷ later) before a passed =
    let at : nat_le change.from a ≡ true = le-leb change.from a (All-head (λ change. change.from ≤ a) change later passed) in
    rw at (owner_after-above later change.owner a (All-tail (λ change. change.from ≤ a) change later passed))

-- what is left of ascending changes ascends
AscendsFrom-rest : (passed left : List Change) (low : ℕ) (before : Option ℕ) → AscendsFrom low before (passed ++ left) → (lower : ℕ) × AscendsFrom lower (last_owner before passed) left
AscendsFrom-rest [] left low before ascends = (low, ascends)
AscendsFrom-rest (change ∷ later) left low before ascends = AscendsFrom-rest later left (change.from + 1) change.owner ascends.2

AscendsFrom-above : (changes : List Change) (low high : ℕ) (before : Option ℕ) → AscendsFrom low before changes → All (λ change. high ≤ change.from) changes → AscendsFrom high before changes
AscendsFrom-above [] low high before ascends above = tt
AscendsFrom-above (change ∷ later) low high before ascends above = (All-head (λ change. high ≤ change.from) change later above, ascends.1, ascends.2)

-- ascending changes are in order
from-ascends : (changes : List Change) (low : ℕ) (before : Option ℕ) → AscendsFrom low before changes → (k : ℕ) (d : Change) → k < length changes → low ≤ (get_or changes k d).from
from-ascends [] low before ascends k d within = absurd (omega arith)
from-ascends (change ∷ later) low before ascends zero d within = ascends.0
from-ascends (change ∷ later) low before ascends (suc k) d within = omega (arith, ascends.0, from-ascends later (change.from + 1) change.owner ascends.2 k d (omega arith))

pub ascends_by_pairs : (changes : List Change) (low : ℕ) (before : Option ℕ) → AscendsFrom low before changes → IsNonDecreasingBy (λ change. change.from) changes
ascends_by_pairs [] low before ascends i j d le within = absurd (omega arith)
ascends_by_pairs (change ∷ later) low before ascends zero zero d le within = omega arith
ascends_by_pairs (change ∷ later) low before ascends zero (suc j) d le within = omega (arith, from-ascends later (change.from + 1) change.owner ascends.2 j d (omega arith))
ascends_by_pairs (change ∷ later) low before ascends (suc i) zero d le within = absurd (omega arith)
ascends_by_pairs (change ∷ later) low before ascends (suc i) (suc j) d le within = ascends_by_pairs later (change.from + 1) change.owner ascends.2 i j d (omega arith) (omega arith)

-- the owner stays up to the first change that is left
stays_to_change : (at end : ℕ) (owner : Option ℕ) (changes left : List Change) → at ≤ 2 ^ 64 - 1 → AscendsFrom (at + 1) owner left → ((a : ℕ) → at ≤ a → owner_at changes a ≡ owner_after owner left a) → end ≡ unwrap_or (first_from left) (2 ^ 64 - 1) → StaysUntil (owner_at changes) at end owner
stays_to_change at end owner changes [] most ascends owners is = record {
  ahead = omega arith;
  here = owners at (omega arith);
  stays = λ a from below. owners a from;
  ends = inl is;
}
stays_to_change at end owner changes (change ∷ later) most ascends owners is =
    let reached : nat_le change.from end ≡ true = le-leb change.from end (omega arith) in
    let passed : owner_after owner (change ∷ later) end ≡ change.owner = rw reached (owner_after-below later (change.from + 1) end change.owner change.owner ascends.2 (omega arith)) in
    let next : owner_at changes end ≡ change.owner = owners end (omega (arith, ascends.0)) ∙ passed in
    record {
      ahead = omega (arith, ascends.0);
      here = owners at (omega arith) ∙ owner_after-below (change ∷ later) (at + 1) at owner owner ascends (omega arith);
      stays = λ a from below. owners a from ∙ owner_after-below (change ∷ later) change.from a owner owner (omega arith, ascends.1, ascends.2) (omega arith);
      ends = inr (λ same. ascends.1 (sym next ∙ same));
    }

-- so many changes are at an address or before it
abbrev pub ArePassed : List Change → ℕ → ℕ → Type 0
ArePassed changes at = IsPartitionPoint (λ change. nat_le change.from at ≡ true) (λ change. nat_le change.from at ≡ false) changes

passed_below : (changes : List Change) (at passed a : ℕ) → passed ≤ length changes → ArePassed changes at passed → at ≤ a → All (λ change. change.from ≤ a) (take passed changes)
passed_below changes at passed a within point up k d lt =
    let among : k < passed = omega (arith, length-take-le passed changes within) in
    rw (get_or-take passed changes k d among) (omega (arith, leb-true (get_or changes k d).from at (point.0 k d (omega arith) among)))

left_above : (changes : List Change) (at passed : ℕ) → ArePassed changes at passed → All (λ change. at + 1 ≤ change.from) (drop passed changes)
left_above changes at passed point k d lt =
    let among : passed + k < length changes = omega (arith, length-drop passed changes) in
    rw (get_or-drop passed changes k d) (omega (arith, leb-false (get_or changes (passed + k) d).from at (point.1 (passed + k) d (omega arith) among)))

owner_at-cut : (changes : List Change) (passed a : ℕ) → All (λ change. change.from ≤ a) (take passed changes) → owner_at changes a ≡ owner_after (last_owner None (take passed changes)) (drop passed changes) a
owner_at-cut changes passed a below =
    let whole = ap (λ all. owner_at all a) (take-append-drop passed changes) in
    let parts = owner_after-append (take passed changes) (drop passed changes) None a in
    let last = ap (λ owner. owner_after owner (drop passed changes) a) (owner_after-above (take passed changes) None a below) in
    sym whole ∙ parts ∙ last

pub stays_until : (changes : List Change) (at passed end : ℕ) → at ≤ 2 ^ 64 - 1 → AscendsFrom 0 None changes → passed ≤ length changes → ArePassed changes at passed → end ≡ unwrap_or (first_from (drop passed changes)) (2 ^ 64 - 1) → StaysUntil (owner_at changes) at end (last_owner None (take passed changes))
stays_until changes at passed end most ascends within point is =
    let parts : AscendsFrom 0 None (take passed changes ++ drop passed changes) = rw (take-append-drop passed changes) ascends in
    let left = AscendsFrom-rest (take passed changes) (drop passed changes) 0 None parts in
    let above = AscendsFrom-above (drop passed changes) left.0 (at + 1) _ left.1 (left_above changes at passed point) in
    let owners = λ (a : ℕ) (up : at ≤ a). owner_at-cut changes passed a (passed_below changes at passed a within point up) in
    stays_to_change at end (last_owner None (take passed changes)) changes (drop passed changes) most above owners is

-- an owner by all changes
pub stays_by_changes : (owner_of : ℕ → Option ℕ) (changes : List Change) (at end : ℕ) (owner found : Option ℕ) → AreChanges owner_of changes → StaysUntil (owner_at changes) at end found → found ≡ owner → StaysUntil owner_of at end owner
stays_by_changes owner_of changes at end owner found all stay is = record {
  ahead = stay.ahead;
  here = sym (all.owners at) ∙ stay.here ∙ is;
  stays = λ a from below. sym (all.owners a) ∙ stay.stays a from below ∙ is;
  ends = elim stay.ends [ inl last ↦ inl last | inr other ↦ inr (λ same. other (all.owners end ∙ same ∙ sym is)) ];
}
