-- The index while a space is walked.
use Rattle.std.proofs.Common.{◌≡◌, ℕ, ◌+◌, ◌-◌, ◌*◌, ◌<◌, ◌≤◌, inl, inr, Option, Some, List, [], ◌∷◌, ◌++◌, refl, sym, ap, ◌∙◌, subst, Bool, arith}
use Rattle.std.proofs.Math.Nat.{mul-le-mul_right}
use Rattle.paging_model.specs.Counting.{IsIn}
use Rattle.paging_model.specs.Memory.{Memory, entry_at}
use Rattle.paging_model.specs.LinearAddress.{span}
use Rattle.paging_model.specs.Entries.{entry_of, joined_bits}
use Rattle.paging_model.specs.declared.registers.Settings.{Settings}
use Rattle.paging_model.specs.declared.entries.Bits.{Bits}
use Rattle.paging_model.specs.declared.entries.Entry.{Entry}
use Rattle.paging_model.specs.declared.entries.Entry.TheVariants as entry
use Rattle.paging_model.specs.declared.spaces.TableUse.{TableUse}
use Rattle.paging_laws.specs.EntryParts.{uses_at}
use Rattle.paging_laws.specs.SpaceParts.{slot_read}
use Rattle.paging_laws.proofs.EntryLaws.{uses_in-none, uses_in-append, uses_in-one, uses_in-range}
use Rattle.paging_laws.proofs.Membership.{in-append, append-left, append-right}
use Rattle.paging_laws.proofs.SlotRanges.{span_least}
use Rattle.frame_index.specs.CountedUses.{HasOneMore, IsAt, NoneAt, pages_counted}
use Rattle.frame_index.specs.declared.counted_use.CountedUse.{CountedUse}
use Rattle.kept_laws.specs.PageNumbers.{page_number, pages_of_entry}
use Rattle.space_map.specs.PartialSpaces.{HasUse}
use Rattle.space_map.specs.WalkedIndexes.{IsFresh, IsJoined, IndexesEntry, IndexesSlots, with_page_number}
use Rattle.space_map.specs.Walks.{meaning, slot_first, uses_from}
use Rattle.space_map.specs.declared.partial.PartialSpace.{PartialSpace}
use Rattle.page_laws.proofs.PageCounts.{pages_in-empty, pages_in-more}
use Rattle.space_map.proofs.Spans.{span_down}

-- none of a list is at a place where it has none
pub none-at : (level prefix : ℕ) (list : List CountedUse) → ((one : CountedUse) → IsIn one list → IsAt level prefix one → ⊥) → NoneAt level prefix list
none-at level prefix [] never = tt
none-at level prefix (one ∷ rest) never = (λ at. never one (inl refl) at, none-at level prefix rest (λ other is at. never other (inr is) at))

module _ (memory : Memory) (settings : Settings) where
  -- nothing is added
  pub joined-none : (tables : List TableUse) (old new : List CountedUse) → tables ≡ [] → new ≡ old → IsJoined memory settings tables old new
  joined-none tables old new none same = record {
    each = λ one is. inl (subst (λ (it : List CountedUse). IsIn one it) same is);
    was = λ one is. subst (λ (it : List CountedUse). IsIn one it) (sym same) is;
    is = λ table is. absurd (subst (λ (it : List TableUse). IsIn table it) none is);
  }

  -- some tables and then more
  pub joined-both : (some more : List TableUse) (old between new : List CountedUse) → IsJoined memory settings some old between
      → IsJoined memory settings more between new → IsJoined memory settings (some ++ more) old new
  joined-both some more old between new before next = record {
    each = λ one is. elim (next.each one is) [
      | inl was ↦ elim (before.each one was) [ inl old_it ↦ inl old_it | inr here ↦ inr (append-left some more one.table here.0, here.1) ]
      | inr here ↦ inr (append-right some more one.table here.0, here.1)
    ];
    was = λ one is. next.was one (before.was one is);
    is = λ table is. elim (in-append some more table is) [
      | inl here ↦ next.was (with_page_number memory settings table) (before.is table here)
      | inr here ↦ next.is table here
    ];
  }

  -- a table, after those that are found below it
  pub joined-over : (table : TableUse) (pages : ℕ) (tables : List TableUse) (old between new : List CountedUse) → pages ≡ page_number memory settings table
      → IsJoined memory settings tables old between → HasOneMore (record { table = table; pages = pages }) between new
      → IsJoined memory settings (table ∷ tables) old new
  joined-over table pages tables old between new number below added = record {
    each = λ one is. elim (added.each one is) [
      | inl same ↦ inr (
        inl (ap (λ (it : CountedUse). it.table) same),
        ap (λ (it : CountedUse). it.pages) same ∙ (number ∙ ap (λ (it : CountedUse). page_number memory settings it.table) (sym same)),
      )
      | inr was ↦ elim (below.each one was) [ inl old_it ↦ inl old_it | inr here ↦ inr (inr here.0, here.1) ]
    ];
    was = λ one is. added.others one (below.was one is);
    is = λ other is. elim is [
      | inl same ↦
          subst (λ (it : TableUse). IsIn (with_page_number memory settings it) new) (sym same)
          (subst (λ (n : ℕ). IsIn (record { table = table; pages = n }) new) number added.item_is)
      | inr here ↦ added.others (with_page_number memory settings other) (below.is other here)
    ];
  }

  module _ (table : TableUse) where
    pub indexes-none : (from : ℕ) (old : PartialSpace) → IndexesSlots memory settings table from 0 old old 0
    indexes-none from old = record {
      indexed = record {
        joined =
            joined-none (uses_from memory settings table from 0) old.index old.index
            (uses_in-none memory settings table.level table.frame table.prefix table.bits from) refl;
        pages_are = omega arith;
      };
      pages_are = sym (pages_in-empty memory settings table.level table.frame from);
    }

    -- an entry more, of which the value says all
    pub indexes-next : (level from count first : ℕ) (value : Option ℕ) (place pages own : ℕ) (old between new : PartialSpace) → level ≡ table.level → 1 ≤ table.level
        → value ≡ entry_at memory place → place ≡ table.frame + 8 * (from + count) → first ≡ table.prefix + (from + count) * span level
        → IndexesSlots memory settings table from count old between pages
        → IndexesEntry memory settings level first table.bits value between new own
        → IndexesSlots memory settings table from (count + 1) old new (pages + own)
    indexes-next level from count first value place pages own old between new is_level least read placed is before next =
        let at_slot : value ≡ entry_at memory (table.frame + 8 * (from + count)) = read ∙ ap (entry_at memory) placed in
        let means : meaning settings level value ≡ slot_read memory settings table.level table.frame (from + count) =
        ap (λ (n : ℕ). meaning settings n value) is_level ∙ ap (λ (it : Option ℕ). meaning settings table.level it) at_slot in
        let at_first : first ≡ slot_first table (from + count) = is ∙ ap (λ (n : ℕ). table.prefix + (from + count) * span n) is_level in
        let here : uses_from memory settings table (from + count) 1 ≡ uses_at memory settings level first table.bits (meaning settings level value) =
        uses_in-one memory settings table.level table.frame table.prefix table.bits (from + count) least
        ∙ (ap (λ (at : ℕ). uses_at memory settings table.level at table.bits (slot_read memory settings table.level table.frame (from + count))) (sym at_first)
        ∙ (ap (λ (it : Option Entry). uses_at memory settings table.level first table.bits it) (sym means)
        ∙ ap (λ (n : ℕ). uses_at memory settings n first table.bits (meaning settings level value)) (sym is_level))) in
        let whole : uses_from memory settings table from (count + 1)
        ≡ uses_from memory settings table from count ++ uses_at memory settings level first table.bits (meaning settings level value) =
        uses_in-append memory settings table.level table.frame table.prefix table.bits from count 1
        ∙ ap (λ (it : List TableUse). uses_from memory settings table from count ++ it) here in
        record {
          indexed = record {
            joined = subst (λ (it : List TableUse). IsJoined memory settings it old.index new.index) (sym whole)
                (joined-both (uses_from memory settings table from count) (uses_at memory settings level first table.bits (meaning settings level value))
                old.index between.index new.index before.indexed.joined next.indexed.joined);
            pages_are = omega (arith, before.indexed.pages_are, next.indexed.pages_are);
          };
          pages_are =
              let last : own ≡ pages_of_entry (slot_read memory settings table.level table.frame (from + count)) = next.pages_are ∙ ap pages_of_entry means in
              omega (arith, before.pages_are, last, pages_in-more memory settings table.level table.frame from count);
        }

    -- all entries up to the end of a loop
    pub indexes-all : (from count all pages : ℕ) (old new : PartialSpace) → count ≡ all → IndexesSlots memory settings table from count old new pages
        → IndexesSlots memory settings table from all old new pages
    indexes-all from count all pages old new same indexes =
        subst (λ (n : ℕ). IndexesSlots memory settings table from n old new pages) same indexes

    -- the range of the next entry is fresh
    pub fresh-next : (level from count all first pages : ℕ) (old between : PartialSpace) → level ≡ table.level → count < all
        → first ≡ table.prefix + (from + count) * span level → IndexesSlots memory settings table from count old between pages
        → IsFresh table.level (slot_first table from) (slot_first table (from + all)) old.index
        → IsFresh level first (first + span level) between.index
    fresh-next level from count all first pages old between is_level less is before fresh =
        let same : span level ≡ span table.level = ap span is_level in
        let at : first ≡ slot_first table (from + count) = is ∙ ap (λ (w : ℕ). table.prefix + (from + count) * w) same in
        let ends : (from + count + 1) * span table.level ≤ (from + all) * span table.level =
        mul-le-mul_right (span table.level) (let next : from + count + 1 ≤ from + all = omega arith in next) in
        record {
          none = λ one is_in lower low high. elim (before.indexed.joined.each one is_in) [
            | inl was ↦ fresh.none one was (omega arith) (omega (arith, at)) (omega (arith, at, same, ends))
            | inr here ↦
                let range = uses_in-range memory settings table.level table.frame table.prefix table.bits from count one.table here.0 in
                omega (arith, at, range.before)
          ];
        }

  -- an entry that maps nothing and references no table
  pub indexes-nothing : (level first : ℕ) (above : Bits) (value : Option ℕ) (old : PartialSpace)
      → uses_at memory settings level first above (meaning settings level value) ≡ [] → pages_of_entry (meaning settings level value) ≡ 0
      → IndexesEntry memory settings level first above value old old 0
  indexes-nothing level first above value old none no_page = record {
    indexed = record {
      joined = joined-none (uses_at memory settings level first above (meaning settings level value)) old.index old.index none refl;
      pages_are = omega arith;
    };
    pages_are = sym no_page;
  }

  module _ (level first : ℕ) (above : Bits) (value : ℕ) where
    -- an entry that maps a page
    pub indexes-page : (frame : ℕ) (bits : Bits) (key : ℕ) (global : Bool) (old new : PartialSpace)
        → entry.Leaf frame bits key global ≡ entry_of level settings value → new.index ≡ old.index → new.leaves ≡ old.leaves + 1
        → IndexesEntry memory settings level first above (Some value) old new 1
    indexes-page frame bits key global old new means index leaves = record {
      indexed = record {
        joined =
            joined-none (uses_at memory settings level first above (meaning settings level (Some value))) old.index new.index
            (ap (λ (it : Entry). uses_at memory settings level first above (Some it)) (sym means)) index;
        pages_are = omega (arith, leaves, ap pages_counted index);
      };
      pages_are = ap (λ (it : Entry). pages_of_entry (Some it)) means;
    }

    -- an entry that references a table
    module _ (frame : ℕ) (bits : Bits) (least : 2 ≤ level) (means : entry.Table frame bits ≡ entry_of level settings value) (below : TableUse)
        (is : below ≡ record { level = level - 1; prefix = first; frame = frame; bits = joined_bits above bits }) where
      at-level : below.level ≡ level - 1
      at-level = ap (λ (it : TableUse). it.level) is

      at-prefix : below.prefix ≡ first
      at-prefix = ap (λ (it : TableUse). it.prefix) is

      -- what is below it is fresh
      pub fresh-below : (old between : PartialSpace) → HasUse old between → IsFresh level first (first + span level) old.index
          → IsFresh below.level (slot_first below 0) (slot_first below (0 + 512)) between.index
      fresh-below old between has fresh =
          let down = span_down level least in
          let same : span below.level ≡ span (level - 1) = ap span at-level in
          record {
            none = λ one is_in lower low high.
                fresh.none one (subst (λ (it : List CountedUse). IsIn one it) has.index is_in) (omega (arith, at-level)) (omega (arith, at-prefix))
                (omega (arith, at-prefix, same, down));
          }

      -- its place is free
      pub place-free : (pages : ℕ) (old between after : PartialSpace) → HasUse old between → IsFresh level first (first + span level) old.index
          → IndexesSlots memory settings below 0 512 between after pages → NoneAt below.level below.prefix after.index
      place-free pages old between after has fresh indexes =
          none-at below.level below.prefix after.index
          (λ one is_in at. elim (indexes.indexed.joined.each one is_in) [
            | inl was ↦
                let some = span_least level in
                fresh.none one (subst (λ (it : List CountedUse). IsIn one it) has.index was) (omega (arith, at.0, at-level)) (omega (arith, at.1, at-prefix))
                (omega (arith, at.1, at-prefix, some))
            | inr here ↦
                let range = uses_in-range memory settings below.level below.frame below.prefix below.bits 0 512 one.table here.0 in
                omega (arith, range.lower, at.0)
          ])

      pub indexes-table : (pages : ℕ) (old between after new : PartialSpace) → HasUse old between
          → IndexesSlots memory settings below 0 512 between after pages
          → HasOneMore (record { table = below; pages = pages }) after.index new.index → new.leaves ≡ after.leaves
          → IndexesEntry memory settings level first above (Some value) old new 0
      indexes-table pages old between after new has indexes added leaves =
          let found : below ∷ uses_from memory settings below 0 512 ≡ uses_at memory settings level first above (meaning settings level (Some value)) =
          ap (λ (it : TableUse). it ∷ uses_from memory settings it 0 512) is ∙ ap (λ (it : Entry). uses_at memory settings level first above (Some it)) means in
          record {
            indexed = record {
              joined = subst (λ (it : List TableUse). IsJoined memory settings it old.index new.index) found
                  (subst (λ (it : List CountedUse). IsJoined memory settings (below ∷ uses_from memory settings below 0 512) it new.index) has.index
                  (joined-over below pages (uses_from memory settings below 0 512) between.index after.index new.index indexes.pages_are indexes.indexed.joined added));
              pages_are = omega (arith, indexes.indexed.pages_are, added.pages, leaves, has.leaves, ap pages_counted has.index);
            };
            pages_are = ap (λ (it : Entry). pages_of_entry (Some it)) means;
          }
