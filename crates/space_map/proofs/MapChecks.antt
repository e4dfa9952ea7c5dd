-- Whether an entry maps a page, by the regions and the uses of a space.
use Rattle.std.proofs.Common.{◌≡◌, ℕ, ◌+◌, ◌-◌, ◌<◌, ◌≤◌, Bool, true, false, Option, Some, None, List, sym, ap, ◌∙◌, arith}
use Rattle.std.specs.Prelude.{not, option_map, if◌then◌else◌}
use Rattle.std.specs.Option.{is_some}
use Rattle.paging_model.specs.Counting.{IsIn, AreAll}
use Rattle.paging_model.specs.Memory.{Memory}
use Rattle.paging_model.specs.TableUses.{IsUse}
use Rattle.paging_model.specs.Translations.{Target, Protection}
use Rattle.paging_model.specs.declared.registers.Settings.{Settings}
use Rattle.paging_model.specs.declared.spaces.TableUse.{TableUse}
use Rattle.paging_laws.specs.SpaceParts.{slot_prefix, slot_read}
use Rattle.paging_laws.proofs.Serving.{Reaches-some}
use Rattle.frame_index.specs.CountedUses.{IsFound}
use Rattle.frame_index.specs.declared.counted_use.CountedUse.{CountedUse}
use Rattle.kept_laws.specs.PageNumbers.{pages_of_entry}
use Rattle.kept_laws.specs.Patches.{IsPatch}
use Rattle.kept_laws.specs.declared.patches.Patch.{Patch}
use Rattle.page_laws.specs.PatchEntries.{IsMapOf}
use Rattle.page_laws.proofs.MappedEntries.{slot-unmapped, slot-table, slot-page}
use Rattle.space_map.specs.PatchWalks.{IsShaped, index_tables}
use Rattle.space_map.proofs.IndexTables.{table-in, use-of_table}

none-mapped : {A B : Type 0} (f : A → B) (found : Option A) (target : Option B) → false ≡ is_some found → option_map f found ≡ target → target ≡ None
none-mapped f None target none is = sym is
none-mapped f (Some x) target none is = absurd cc

some-mapped : {A B : Type 0} (f : A → B) (found : Option A) (target : Option B) → true ≡ is_some found → option_map f found ≡ target → (b : B) × (target ≡ Some b)
some-mapped f None target some is = absurd cc
some-mapped f (Some x) target some is = (f x, sym is)

module _ (written : ℕ → Bool) (memory : Memory) (settings : Settings) (root : ℕ) (patch : Patch) (target : ℕ → Option (Target Protection)) (index : List CountedUse) (i first : ℕ)
    (shape : IsShaped patch) (from : patch.from ≤ i) (before : i < patch.from + patch.count) (at : first ≡ slot_prefix patch.table.level patch.table.prefix i)
    (is_patch : IsPatch memory written settings root patch) (is_map : IsMapOf memory settings root target)
    (all : AreAll (IsUse memory settings root) (index_tables index)) where
  abbrev Pages : ℕ → Type 0
  Pages n = pages_of_entry (slot_read memory settings patch.table.level patch.table.frame i) ≡ n

  pub by-unmapped : {A : Type 0} (f : A → Target Protection) (found : Option A) (test : Bool) → test ≡ false → false ≡ is_some found
      → option_map f found ≡ target first → Pages (if test then 1 else 0)
  by-unmapped f found test is_false none is =
      let unmapped : target first ≡ None = none-mapped f found (target first) none is in
      rw is_false
      (slot-unmapped written memory settings root patch target i is_patch is_map from before (ap target (sym at) ∙ unmapped))

  at-page : (to : Target Protection) → target first ≡ Some to
      → ((one : CountedUse) → IsIn one index → (one.table.level ≡ patch.table.level - 1) × (one.table.prefix ≡ first) → ⊥) → Pages 1
  at-page to mapped never =
      slot-page written memory settings root patch target (index_tables index) i to is_patch is_map all from before (ap target (sym at) ∙ mapped)
      (λ table is below.
      let one = use-of_table index table is in
      let level = ap (λ (it : TableUse). it.level) one.2 in
      let prefix = ap (λ (it : TableUse). it.prefix) one.2 in
      never one.0 one.1 (omega (arith, level, below.level), prefix ∙ (below.prefix ∙ sym at)))

  by-use : (to : Target Protection) → target first ≡ Some to → (found : Option CountedUse) (test : Bool) → is_some found ≡ not test
      → IsFound (patch.table.level - 1) first index found → Pages (if test then 1 else 0)
  by-use to mapped None true is never = at-page to mapped never
  by-use to mapped None false is never = absurd cc
  by-use to mapped (Some one) true is found = absurd cc
  by-use to mapped (Some one) false is found =
      slot-table written memory settings root patch (index_tables index) i one.table is_patch all from before (table-in index one found.0)
      (record { level = omega (arith, found.1.0, shape.walkable.least); prefix = found.1.1 ∙ at })

  pub by-mapped : {A : Type 0} (f : A → Target Protection) (found_region : Option A) → true ≡ is_some found_region → option_map f found_region ≡ target first
      → (found : Option CountedUse) (test : Bool) → is_some found ≡ not test → IsFound (patch.table.level - 1) first index found
      → Pages (if test then 1 else 0)
  by-mapped f found_region some is found test is_none finds =
      let mapped = some-mapped f found_region (target first) some is in
      by-use mapped.0 mapped.1 found test is_none finds

  -- at level 1
  pub by-lowest : {A : Type 0} (f : A → Target Protection) (found_region : Option A) (test : Bool) → test ≡ true → true ≡ is_some found_region
      → option_map f found_region ≡ target first → patch.table.level ≡ 1 → Pages (if test then 1 else 0)
  by-lowest f found_region test is_true some is lowest =
      let mapped = some-mapped f found_region (target first) some is in
      rw is_true
      (at-page mapped.0 mapped.1
      (λ one is_in place.
      let level = Reaches-some (all.some.have one.table (table-in index one is_in)).reached in
      omega (arith, level, place.0, lowest)))
