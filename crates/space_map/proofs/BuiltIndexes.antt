-- What the walks of both halves of the top table leave in the index: all uses of the space.
use Rattle.std.proofs.Common.{◌≡◌, ℕ, ◌+◌, ◌≤◌, inl, inr, List, [], ◌++◌, sym, ap, subst, arith}
use Rattle.paging_model.specs.Counting.{IsIn, AreAll, AreDistinct}
use Rattle.paging_model.specs.Memory.{Memory}
use Rattle.paging_model.specs.TableUses.{IsUse}
use Rattle.paging_model.specs.Walking.{top_level}
use Rattle.paging_model.specs.declared.registers.Settings.{Settings}
use Rattle.paging_model.specs.declared.spaces.SpaceKey.{SpaceKey}
use Rattle.paging_model.specs.declared.spaces.TableUse.{TableUse}
use Rattle.paging_laws.specs.SpaceParts.{uses_of}
use Rattle.paging_laws.proofs.EntryLaws.{uses_in-range}
use Rattle.frame_index.specs.CountedUses.{HasOneMore, NoneAt, pages_counted}
use Rattle.frame_index.specs.declared.counted_use.CountedUse.{CountedUse}
use Rattle.kept_laws.specs.PageNumbers.{page_number}
use Rattle.space_map.specs.TrueSpaces.{IsCountedUse}
use Rattle.space_map.specs.WalkedIndexes.{IsFresh, IsJoined, IndexesSlots}
use Rattle.space_map.specs.Walks.{slot_first, uses_from}
use Rattle.space_map.specs.declared.partial.PartialSpace.{PartialSpace}
use Rattle.space_map.proofs.BuiltSpaces.{lower_top, upper_top}
use Rattle.space_map.proofs.IndexWalks.{joined-both, joined-over, none-at}
use Rattle.page_laws.proofs.PageCounts.{pages_in-append}
use Rattle.space_map.proofs.PageCounts.{pages-at_most}

-- an index that has all uses of a space, each with its number, and nothing else
pub counted-all : (memory : Memory) (key : SpaceKey) (uses : List TableUse) (index : List CountedUse) → AreAll (IsUse memory key.settings key.root) uses
    → IsJoined memory key.settings uses [] index → AreDistinct index → AreAll (IsCountedUse memory key) index
counted-all memory key uses index all joined distinct = record {
  some = record {
    have = λ one is. elim (joined.each one is) [
      | inl never ↦ absurd never
      | inr here ↦ record { is_use = all.some.have one.table here.0; pages = here.1 }
    ];
    distinct = distinct;
  };
  all = λ one has.
      subst (λ (n : ℕ). IsIn (record { table = one.table; pages = n }) index) (sym has.pages) (joined.is one.table (all.all one.table has.is_use));
}

module _ (memory : Memory) (settings : Settings) (root : ℕ) (start middle : PartialSpace) (nothing : start.index ≡ []) (lower_pages : ℕ)
    (lower : IndexesSlots memory settings (lower_top memory settings root) 0 256 start middle lower_pages) where
  -- below the top table the upper half is fresh yet
  pub fresh-upper : (low high : ℕ) → slot_first (lower_top memory settings root) 256 ≤ low → IsFresh (top_level settings) low high middle.index
  fresh-upper low high after = record {
    none = λ one is less from before. elim (lower.indexed.joined.each one is) [
      | inl was ↦ absurd (subst (λ (it : List CountedUse). IsIn one it) nothing was)
      | inr here ↦
          let range = uses_in-range memory settings (top_level settings) root 0 (lower_top memory settings root).bits 0 256 one.table here.0 in
          omega (arith, range.before)
    ];
  }

  module _ (end : PartialSpace) (upper_pages : ℕ)
      (upper : IndexesSlots memory settings (upper_top memory settings root) 256 256 middle end upper_pages) where
    pub joined-halves : IsJoined memory settings
        (uses_from memory settings (lower_top memory settings root) 0 256 ++ uses_from memory settings (upper_top memory settings root) 256 256) [] end.index
    joined-halves =
        joined-both memory settings (uses_from memory settings (lower_top memory settings root) 0 256) (uses_from memory settings (upper_top memory settings root) 256 256)
        [] middle.index end.index
        (subst (λ (it : List CountedUse). IsJoined memory settings (uses_from memory settings (lower_top memory settings root) 0 256) it middle.index) nothing
        lower.indexed.joined)
        upper.indexed.joined

    -- the top table has the place of none
    pub top-free : NoneAt (top_level settings) 0 end.index
    top-free =
        none-at (top_level settings) 0 end.index
        (λ one is at. elim (upper.indexed.joined.each one is) [
          | inl was ↦ elim (lower.indexed.joined.each one was) [
            | inl never ↦ absurd (subst (λ (it : List CountedUse). IsIn one it) nothing never)
            | inr here ↦
                let range = uses_in-range memory settings (top_level settings) root 0 (lower_top memory settings root).bits 0 256 one.table here.0 in
                omega (arith, range.lower, at.0)
          ]
          | inr here ↦
              let range = uses_in-range memory settings (top_level settings) root (upper_top memory settings root).prefix (lower_top memory settings root).bits 256 256 one.table here.0 in
              omega (arith, range.lower, at.0)
        ])

    -- its entries are those of both halves
    pub top-pages : lower_pages + upper_pages ≡ page_number memory settings (lower_top memory settings root)
    top-pages =
        omega (arith, lower.pages_are, upper.pages_are, pages_in-append memory settings (top_level settings) root 0 256 256)

    pub few-pages : lower_pages + upper_pages ≤ 512
    few-pages =
        omega (
          arith,
          lower.pages_are,
          upper.pages_are,
          pages-at_most memory settings (top_level settings) root 0 256,
          pages-at_most memory settings (top_level settings) root 256 256,
        )

    -- all pages that were found count
    pub pages-counted : start.leaves ≡ 0 → pages_counted end.index + (lower_pages + upper_pages) ≡ end.leaves
    pages-counted none =
        let empty : pages_counted start.index ≡ 0 = ap pages_counted nothing in
        omega (arith, lower.indexed.pages_are, upper.indexed.pages_are)

    pub joined-whole : (index : List CountedUse)
        → HasOneMore (record { table = lower_top memory settings root; pages = lower_pages + upper_pages }) end.index index
        → IsJoined memory settings (uses_of memory settings root) [] index
    joined-whole index added =
        joined-over memory settings (lower_top memory settings root) (lower_pages + upper_pages)
        (uses_from memory settings (lower_top memory settings root) 0 256 ++ uses_from memory settings (upper_top memory settings root) 256 256)
        [] end.index index top-pages joined-halves added
