-- A space whose top table has nothing but unknown and empty entries has one use, and no page.
use Rattle.std.proofs.Common.{◌≡◌, ℕ, suc, ◌+◌, ◌<◌, ◌≤◌, ◌⊎◌, Bool, true, false, inl, inr, List, [], ◌∷◌, length, Option, Some, None, refl, sym, ap, ◌∙◌, subst, arith}
use Rattle.std.specs.Prelude.{option_map, if◌then◌else◌}
use Rattle.std.proofs.lemmas.Bool.Decides.{nat_tests}
use Rattle.paging_model.specs.Counting.{AreSome}
use Rattle.paging_model.specs.Entries.{entry_of, root_bits}
use Rattle.paging_model.specs.Memory.{Memory, Extent, covers, byte_in, entry_at}
use Rattle.paging_model.specs.TableUses.{Reaches, at_root, below, IsUse, Leaf, IsLeaf, IsTooLarge, IsWithinLimits}
use Rattle.paging_model.specs.Walking.{entry_address, entry_read, at_value, top_level, walk, walk_from}
use Rattle.paging_model.specs.declared.entries.Bits.{Bits}
use Rattle.paging_model.specs.declared.entries.Entry.TheVariants as entry
use Rattle.paging_model.specs.declared.registers.Settings.{Settings}
use Rattle.paging_model.specs.declared.spaces.TableUse.{TableUse}
use Rattle.paging_model.specs.declared.walks.Page.{Page}
use Rattle.paging_model.specs.declared.walks.Walk.{Walk}
use Rattle.paging_model.specs.declared.walks.Walk.TheVariants.{Mapped}
use Rattle.history_model.specs.History.{with_bytes}

-- the entry is unknown, or zero
abbrev pub IsNothing : Option ℕ → Type 0
IsNothing value = (value ≡ None) ⊎ (value ≡ Some 0)

-- nothing is referenced by it, nor mapped
no_reference : (settings : Settings) (level frame : ℕ) (bits : Bits) (value : Option ℕ) → IsNothing value
    → option_map (λ value. entry_of level settings value) value ≡ Some (entry.Table frame bits) → ⊥
unfolding entry_of
no_reference settings level frame bits value (inl unknown) read = let e : None ≡ Some (entry.Table frame bits) = rw unknown at read in cc
no_reference settings level frame bits value (inr zero) read = let e : Some entry.Absent ≡ Some (entry.Table frame bits) = rw zero at read in cc

no_page : (next : ℕ → Bits → Walk) (settings : Settings) (level x : ℕ) (above : Bits) (value : Option ℕ) (page : Page) → IsNothing value
    → at_value next settings level x above value ≡ Mapped page → ⊥
unfolding entry_of
no_page next settings level x above value page (inl unknown) mapped = let e = rw unknown at mapped in cc
no_page next settings level x above value page (inr zero) mapped = let e = rw zero at mapped in cc

some_level : (five_levels : Bool) → (level : ℕ) × ((if five_levels then 5 else 4) ≡ suc level)
some_level true = (4, refl)
some_level false = (3, refl)

use_of : ℕ → ℕ → ℕ → Bits → TableUse
use_of level prefix frame bits = record { level = level; prefix = prefix; frame = frame; bits = bits }

same_use : (level level' prefix prefix' frame frame' : ℕ) (bits bits' : Bits) → level ≡ level' → prefix ≡ prefix' → frame ≡ frame'
    → bits ≡ bits' → use_of level prefix frame bits ≡ use_of level' prefix' frame' bits'
same_use level level' prefix prefix' frame frame' bits bits' levels prefixes frames joins = cc

module _ (memory : Memory) (settings : Settings) (root : ℕ) (nothing : (level x : ℕ) → IsNothing (entry_at memory (entry_address level x root))) where
  root_alone : {level x table : ℕ} {bits : Bits} → Reaches memory settings root level x table bits
      → (level ≡ top_level settings) × (table ≡ root) × (bits ≡ root_bits)
  root_alone at_root = (refl, refl, refl)
  root_alone (below {level = level} {x = x} {table = table} {frame = frame} {bits = bits} reached read) =
      let upper = root_alone reached in
      let at_the_root : entry_read memory settings (suc level) x root ≡ Some (entry.Table frame bits) =
      ap (λ table. entry_read memory settings (suc level) x table) (sym upper.1) ∙ read in
      absurd (no_reference settings (suc level) frame bits _ (nothing (suc level) x) at_the_root)

  the_use : TableUse
  the_use = use_of (top_level settings) 0 root root_bits

  use_alone : (table : TableUse) → IsUse memory settings root table → table ≡ the_use
  unfolding use_of the_use
  use_alone table is_use =
      let alone = root_alone is_use.reached in
      elim is_use.serves [
        | inl top ↦ same_use table.level (top_level settings) table.prefix 0 table.frame root table.bits root_bits alone.0 top.1 alone.1 alone.2
        | inr lower ↦ absurd (omega (arith, lower.1, alone.0))
      ]

  no_walk : (level x : ℕ) (page : Page) → walk_from memory settings (suc level) x root root_bits ≡ Mapped page → ⊥
  unfolding walk_from
  no_walk level x page mapped =
      no_page (λ frame bits. walk_from memory settings level x frame bits) settings (suc level) x root_bits _ page (nothing (suc level) x) mapped

  no_leaf : (leaf : Leaf) → IsLeaf memory settings root leaf → ⊥
  unfolding walk
  no_leaf leaf is_leaf =
      let top = some_level settings.la57 in
      no_walk top.0 leaf.prefix is_leaf.page
      (subst (λ level. walk_from memory settings level leaf.prefix root root_bits ≡ Mapped is_leaf.page) top.1 is_leaf.mapped)

  pub within_limits : IsWithinLimits memory settings root
  unfolding use_of the_use
  within_limits = record {
    uses = record {
      things = the_use ∷ [];
      all = record {
        some = record {
          have = λ table is_in. elim is_in [
            | inl is ↦ subst (λ table. IsUse memory settings root table) (sym is) (record { serves = inl (refl, refl); reached = at_root })
            | inr none ↦ absurd none
          ];
          distinct = (λ is_in. is_in, tt);
        };
        all = λ table is_use. inl (use_alone table is_use);
      };
      many = omega arith;
    };
    leaves = record {
      things = [];
      all = record {
        some = record { have = λ leaf is_in. absurd is_in; distinct = tt };
        all = λ leaf is_leaf. absurd (no_leaf leaf is_leaf);
      };
      many = omega arith;
    };
  }

  few_uses : (tables : List TableUse) → AreSome (IsUse memory settings root) tables → 262144 < length tables → ⊥
  few_uses [] some many = omega arith
  few_uses (one ∷ []) some many = omega arith
  few_uses (one ∷ other ∷ rest) some many =
      some.distinct.0 (inl (use_alone one (some.have one (inl refl)) ∙ sym (use_alone other (some.have other (inr (inl refl))))))

  few_leaves : (leaves : List Leaf) → AreSome (IsLeaf memory settings root) leaves → 2097152 < length leaves → ⊥
  few_leaves [] some many = omega arith
  few_leaves (one ∷ rest) some many = no_leaf one (some.have one (inl refl))

  pub not_too_large : IsTooLarge memory settings root → ⊥
  not_too_large (inl uses) = few_uses uses.things uses.some uses.many
  not_too_large (inr leaves) = few_leaves leaves.things leaves.some leaves.many

-- an entry whose first byte is unknown
pub unknown_entry : (memory : Memory) (a : ℕ) → memory a ≡ None → IsNothing (entry_at memory a)
unfolding entry_at
unknown_entry memory a unknown = inl (rw unknown refl)

-- each of the extents ends before an address
abbrev pub EndBefore : ℕ → List Extent → Type 0
EndBefore a [] = Unit {0}
EndBefore a (one ∷ rest) = (one.start + length one.bytes ≤ a) × EndBefore a rest

not_covered : (extent : Extent) (a : ℕ) → extent.start + length extent.bytes ≤ a → covers extent a ≡ false
not_covered extent a ends = grind (arith, nat_tests)

pub unknown_after : (extents : List Extent) (a : ℕ) → EndBefore a extents → byte_in extents a ≡ None
unknown_after [] a end = refl
unknown_after (one ∷ rest) a end = rw (not_covered one a end.0) (unknown_after rest a end.1)

-- what is unknown stays unknown
pub still_unknown : (at : ℕ) (bytes : List ℕ) (memory : Memory) (a : ℕ) → memory a ≡ None → with_bytes at bytes memory a ≡ None
still_unknown at bytes memory a unknown = rw unknown refl
