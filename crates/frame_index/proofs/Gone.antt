-- Records that are removed one after another.
use Rattle.std.proofs.Common.{◌≡◌, ℕ, ◌+◌, ◌<◌, ◌≤◌, ◌⊎◌, inl, inr, List, Option, None, Some, sym, ap, ◌∙◌, subst, arith}
use Rattle.std.proofs.lemmas.Bool.{cases_eq}
use Rattle.std.specs.BTreeMap.{BTreeMap, get}
use Rattle.slab.specs.Slab.{Slab, Updates}
use Rattle.paging_model.specs.Counting.{IsIn}
use Rattle.frame_index.specs.CountedUses.{IsUnder}
use Rattle.frame_index.specs.Records.{AreFiled, AreRemovedOf, IsBetween, place_cmp, record_in, records_in}
use Rattle.frame_index.specs.declared.counted_use.CountedUse.{CountedUse}
use Rattle.frame_index.proofs.Slots.{is_in_from_slot, slot_from_is_in}

-- only records of a level are gone so far
pub record GoneSoFar (first last level : ℕ) (old new : List CountedUse) : Type 0 where
  pub were : (one : CountedUse) → IsIn one new → IsIn one old
  pub others : (one : CountedUse) → IsIn one old → (IsIn one new ⊎ IsBetween first last level one.table)

pub one_gone : (first last level : ℕ) (all : List CountedUse) (old new : Slab CountedUse) (slot : ℕ) (gone : CountedUse) → GoneSoFar first last level all (records_in old.slots) → record_in old.slots slot ≡ Some gone → IsBetween first last level gone.table → Updates old new slot None → GoneSoFar first last level all (records_in new.slots)
one_gone first last level all old new slot gone so_far is_gone between updates = record {
  were = λ one is.
      let found = slot_from_is_in new.slots one is in
      let there = found.1 in
      let changed = updates.changed in
      so_far.were one (is_in_from_slot old.slots found.0 one (sym (updates.others found.0 (λ same. let e = ap (record_in new.slots) same in absurd (cc))) ∙ found.1));
  others = λ one is. elim (so_far.others one is) [
    | inl there ↦
        let found = slot_from_is_in old.slots one there in
        elim (cases_eq found.0 slot) [
          | inl same ↦
              let e = ap (record_in old.slots) same in
              let here = found.1 in
              let is_one : gone ≡ one = cc in
              inr (subst (λ (x : CountedUse). IsBetween first last level x.table) is_one between)
          | inr differs ↦ inl (is_in_from_slot new.slots found.0 one (updates.others found.0 differs ∙ found.1))
        ]
    | inr is_between ↦ inr is_between
  ];
}

-- the record to which a place of the level leads
pub record IsGone (first last level : ℕ) (slots : List (Option CountedUse)) (slot : ℕ) : Type 0 where
  pub gone : CountedUse
  pub is : record_in slots slot ≡ Some gone
  pub between : IsBetween first last level gone.table

pub gone_at : (slots : List (Option CountedUse)) (places : BTreeMap (ℕ × ℕ) ℕ) (frames : BTreeMap (ℕ × (ℕ × ℕ)) ℕ) (pages first last level slot : ℕ) → AreFiled slots places frames pages → (prefix : ℕ) × (first ≤ prefix) × (prefix ≤ last) × (get place_cmp places (level, prefix) ≡ Some slot) → IsGone first last level slots slot
gone_at slots places frames pages first last level slot filed found =
    let one = filed.by_place.has (level, found.0) slot found.3 in
    let prefix = ap (λ (p : ℕ × ℕ). p.1) one.2 in
    let from = found.1 in
    let to = found.2 in
    record {
      gone = one.0;
      is = one.1;
      between = record { level_is = ap (λ (p : ℕ × ℕ). p.0) one.2; from = omega (arith, prefix, from); to = omega (arith, prefix, to) };
    }

-- the records of some lower levels are gone so far
pub record GoneBelow (first last level lower : ℕ) (old new : List CountedUse) : Type 0 where
  pub were : (one : CountedUse) → IsIn one new → IsIn one old
  pub none : (one : CountedUse) → IsIn one new → one.table.level < lower → first ≤ one.table.prefix → one.table.prefix ≤ last → ⊥
  pub others : (one : CountedUse) → IsIn one old → (IsIn one new ⊎ IsUnder first last level one.table)

pub gone_below_more : (first last level lower : ℕ) (all old new : List CountedUse) → GoneBelow first last level lower all old → lower < level → AreRemovedOf first last lower old new → GoneBelow first last level (lower + 1) all new
gone_below_more first last level lower all old new so_far below removed = record {
  were = λ one is. so_far.were one (removed.were one is);
  none = λ one is under from to. elim (cases_eq one.table.level lower) [
    | inl same ↦ removed.none one is (record { level_is = same; from = from; to = to })
    | inr differs ↦ so_far.none one (removed.were one is) (omega (arith, under, differs)) from to
  ];
  others = λ one is. elim (so_far.others one is) [
    | inl there ↦ elim (removed.others one there) [
      | inl stays ↦ inl stays
      | inr between ↦ inr (record { lower = let same = between.level_is in omega (arith, same, below); from = between.from; to = between.to })
    ]
    | inr under ↦ inr under
  ];
}
