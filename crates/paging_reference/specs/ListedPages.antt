-- The listing of given pages alone.
use Rattle.std.specs.Prelude.{◌≡◌, ℕ, ◌+◌, ◌<◌, ◌==◌, ◌&&◌, Bool, Option, Some, None, List, [], ◌∷◌, All, if◌then◌else◌}
use Rattle.paging_model.specs.Counting.{IsIn}
use Rattle.paging_model.specs.LinearAddress.{IsPage}
use Rattle.paging_model.specs.Listings.{Stretch}
use Rattle.paging_model.specs.Translations.{Target}

-- ascending pages of canonical addresses
abbrev pub ArePages : Bool → List ℕ → Type 0
ArePages five_levels [] = Unit {0}
ArePages five_levels (one ∷ rest) = IsPage five_levels one × All (λ other. one < other) rest × ArePages five_levels rest

-- what one of these pages is mapped to; nothing elsewhere
abbrev pub target_among : List ℕ → (ℕ → Option (Target ℕ)) → ℕ → Option (Target ℕ)
target_among [] target x = None
target_among (one ∷ rest) target x = if one == x then target x else target_among rest target x

-- each page that is mapped is one of these
abbrev pub AreAllMapped : Bool → (ℕ → Option (Target ℕ)) → List ℕ → Type 0
AreAllMapped five_levels target pages =
    (x : ℕ) (there : Target ℕ) → IsPage five_levels x → target x ≡ Some there → IsIn x pages

-- the range of one page
abbrev pub page_stretch : ℕ → Target ℕ → Stretch ℕ
page_stretch page target = record { first = page; last = page + 4095; frame = target.frame; kind = target.kind }

-- whether a page makes one with the range after it
abbrev pub is_one_with : ℕ → Target ℕ → Stretch ℕ → Bool
is_one_with page target next =
    next.first == page + 4096 && next.frame == target.frame + 4096 && next.kind == target.kind

-- ranges with a page before them
abbrev pub with_first_page : ℕ → Target ℕ → List (Stretch ℕ) → List (Stretch ℕ)
with_first_page page target [] = page_stretch page target ∷ []
with_first_page page target (next ∷ rest) =
    if is_one_with page target next
    then (record next { first = page; frame = target.frame }) ∷ rest
    else page_stretch page target ∷ next ∷ rest
