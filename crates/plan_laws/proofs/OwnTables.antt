-- The patches of a plan have their own tables.
use Rattle.std.proofs.Common.{◌≡◌, ℕ, ◌-◌, ◌*◌, ◌^◌, ◌<◌, Bool, true, false, sym, ap, ◌∙◌, subst, arith}
use Rattle.std.specs.Prelude.{List, min, max, if◌then◌else◌}
use Rattle.paging_model.specs.Counting.{IsIn, AreAll}
use Rattle.paging_model.specs.Memory.{Memory}
use Rattle.paging_model.specs.LinearAddress.{span}
use Rattle.paging_model.specs.TableUses.{IsUse}
use Rattle.paging_model.specs.Walking.{top_level}
use Rattle.paging_model.specs.declared.registers.Settings.{Settings}
use Rattle.paging_model.specs.declared.spaces.TableUse.{TableUse}
use Rattle.paging_laws.specs.SpaceParts.{upper_prefix}
use Rattle.paging_laws.proofs.Reaching.{use_is_one}
use Rattle.kept_laws.specs.declared.patches.Patch.{Patch}
use Rattle.plan_laws.specs.Plans.{patch_at, IsPartOf, lower_part, lower_half, upper_half, ArePlanned}
use Rattle.plan_laws.proofs.PlanPatches.{top-is_root}

upper-some : (five_levels : Bool) → 0 < 2 ^ 64 - 512 * span (if five_levels then 5 else 4)
upper-some true = omega arith
upper-some false = omega arith

-- the level and the prefix of a part
abbrev level_of : Patch → ℕ
level_of patch = patch.table.level

abbrev prefix_of : Patch → ℕ
prefix_of patch = patch.table.prefix

module _ (memory : Memory) (settings : Settings) (root first last : ℕ) where
  same-parts : (table other : TableUse) (one two : Patch) → IsUse memory settings root table → IsUse memory settings root other
      → IsPartOf settings first last table one → IsPartOf settings first last other two
      → one.table.level ≡ two.table.level → one.table.prefix ≡ two.table.prefix → one ≡ two
  same-parts table other one two is_use is_use' (lower_part lower is) (lower_part lower' is') level prefix =
      let levels : table.level ≡ other.level = sym (ap level_of is) ∙ (level ∙ ap level_of is') in
      let prefixes : table.prefix ≡ other.prefix = sym (ap prefix_of is) ∙ (prefix ∙ ap prefix_of is') in
      let same : table ≡ other = use_is_one {memory = memory} {settings = settings} {root = root} table other is_use is_use' levels prefixes in
      is ∙ (ap (λ (it : TableUse). patch_at it it.prefix first last) same ∙ sym is')
  same-parts table other one two is_use is_use' (lower_part lower is) (lower_half top few is') level prefix =
      absurd (omega (arith, lower, top, level, ap level_of is, ap level_of is'))
  same-parts table other one two is_use is_use' (lower_part lower is) (upper_half top many is') level prefix =
      absurd (omega (arith, lower, top, level, ap level_of is, ap level_of is'))
  same-parts table other one two is_use is_use' (lower_half top few is) (lower_part lower is') level prefix =
      absurd (omega (arith, lower, top, level, ap level_of is, ap level_of is'))
  same-parts table other one two is_use is_use' (upper_half top many is) (lower_part lower is') level prefix =
      absurd (omega (arith, lower, top, level, ap level_of is, ap level_of is'))
  same-parts table other one two is_use is_use' (lower_half top few is) (lower_half top' few' is') level prefix =
      let same : table ≡ other = top-is_root memory settings root table is_use top ∙ sym (top-is_root memory settings root other is_use' top') in
      is ∙ (ap (λ (it : TableUse). patch_at it 0 first (min last 255)) same ∙ sym is')
  same-parts table other one two is_use is_use' (upper_half top many is) (upper_half top' many' is') level prefix =
      let same : table ≡ other = top-is_root memory settings root table is_use top ∙ sym (top-is_root memory settings root other is_use' top') in
      is ∙ (ap (λ (it : TableUse). patch_at it (upper_prefix settings) (max first 256) last) same ∙ sym is')
  same-parts table other one two is_use is_use' (lower_half top few is) (upper_half top' many is') level prefix =
      let zero_is : 0 ≡ upper_prefix settings = sym (ap prefix_of is) ∙ (prefix ∙ ap prefix_of is') in
      absurd (omega (arith, zero_is, upper-some settings.la57))
  same-parts table other one two is_use is_use' (upper_half top many is) (lower_half top' few is') level prefix =
      let zero_is : upper_prefix settings ≡ 0 = sym (ap prefix_of is) ∙ (prefix ∙ ap prefix_of is') in
      absurd (omega (arith, zero_is, upper-some settings.la57))

-- one patch at most of a plan is of a level and a prefix
pub own-tables : (memory : Memory) (settings : Settings) (root : ℕ) (patches : List Patch) (frame first last : ℕ) (tables : List TableUse)
    → AreAll (IsUse memory settings root) tables → ArePlanned settings first last frame tables patches
    → (one other : Patch) → IsIn one patches → IsIn other patches
    → one.table.level ≡ other.table.level → one.table.prefix ≡ other.table.prefix → one ≡ other
own-tables memory settings root patches frame first last tables all plan one other is_in is_in' level prefix =
    let mine = plan.each one is_in in
    let yours = plan.each other is_in' in
    same-parts memory settings root first last mine.0 yours.0 one other (all.some.have mine.0 mine.1) (all.some.have yours.0 yours.1)
    mine.4 yours.4 level prefix

-- the table of a lower part stands in the list
part-table : (settings : Settings) (first last : ℕ) (tables : List TableUse) (table : TableUse) (patch : Patch) → IsIn table tables
    → IsPartOf settings first last table patch → patch.table.level < top_level settings → IsIn patch.table tables
part-table settings first last tables table patch is_in (lower_part lower is) less =
    subst (λ (it : Patch). IsIn it.table tables) (sym is) is_in
part-table settings first last tables table patch is_in (lower_half top few is) less = absurd (omega (arith, top, less, ap level_of is))
part-table settings first last tables table patch is_in (upper_half top many is) less = absurd (omega (arith, top, less, ap level_of is))

pub listed-tables : (settings : Settings) (patches : List Patch) (frame first last : ℕ) (tables : List TableUse)
    → ArePlanned settings first last frame tables patches
    → (patch : Patch) → IsIn patch patches → patch.table.level < top_level settings → IsIn patch.table tables
listed-tables settings patches frame first last tables plan patch is_in less =
    let it = plan.each patch is_in in part-table settings first last tables it.0 patch it.1 it.4 less
