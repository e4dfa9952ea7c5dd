-- What a map maps in a range of addresses. (Plain maps, of no manual.)
use Rattle.std.specs.Prelude.{◌≡◌, ℕ, ◌%◌, ◌<◌, ◌≤◌, ◌⊎◌, Option, None}
use Rattle.paging_model.specs.Translations.{Target, Protection}

-- what each address is mapped to
abbrev pub Mapping : Type 0
Mapping = ℕ → Option (Target Protection)

-- each page from `low` up to `high` is mapped as it should be, and all outside as before
pub record IsMappedIn (low high : ℕ) (target old new : Mapping) : Type 0 where
  pub inside : (page : ℕ) → page % 4096 ≡ 0 → low ≤ page → page < high → new page ≡ target page
  pub outside : (x : ℕ) → ((x < low) ⊎ (high ≤ x)) → new x ≡ old x

-- no address from `low` up to `high` is mapped
pub record IsClear (low high : ℕ) (target : Mapping) : Type 0 where
  pub none : (x : ℕ) → low ≤ x → x < high → target x ≡ None
