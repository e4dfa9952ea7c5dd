-- The levels of what is held.
use Rattle.std.specs.Prelude.{◌≡◌, ℕ, ◌≤◌, Bool, true, false, Some, if◌then◌else◌}
use Rattle.paging_model.specs.Registers.{la57}
use Rattle.paging_model.specs.declared.registers.Regs.{Regs}
use Rattle.history_model.specs.History.{History, regs}
use Rattle.history_model.specs.Horizons.{IsUpTo}
use Rattle.history_model.specs.CachedTranslations.{Held}

-- 5 (PML5E) to 1 (PTE); pages are mapped at levels 3 to 1, and tables referenced at levels 5 to 2
pub record HasLevel (level : ℕ) (held : Held) : Type 0 where
  pub least : 1 ≤ level
  pub most : level ≤ 5
  pub of_page : held.leaf ≡ true → level ≤ 3
  pub of_table : held.leaf ≡ false → 2 ≤ level

-- processor p had 5 levels, or 4, at each moment
abbrev pub HasLevels : History → ℕ → Bool → Type 0
HasLevels history p five_levels =
    (moment : History) (known : Regs) → IsUpTo moment history → regs moment p ≡ Some known → la57 known ≡ five_levels

abbrev pub levels_of : Bool → ℕ
levels_of five_levels = if five_levels then 5 else 4
