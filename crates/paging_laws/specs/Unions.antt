-- One stretch in place of two that follow one another.
use Rattle.std.specs.Prelude.{◌≡◌, ℕ, Bool, List, ◌∷◌}
use Rattle.paging_model.specs.Listings.{Stretch, IsStretch, IsOneWith, target_in}

-- from the first byte of the one to the last byte of the other
abbrev pub union : {Kind : Type 0} → Stretch Kind → Stretch Kind → Stretch Kind
union one other = record { first = one.first; last = other.last; frame = one.frame; kind = one.kind }

-- where two stretches make one, they map each page to what that one does
abbrev pub MapAsOne : (Kind : Type 0) → Type 0
MapAsOne Kind =
    (five_levels : Bool) (one other : Stretch Kind) (rest : List (Stretch Kind)) (page : ℕ)
    → IsStretch five_levels one → IsStretch five_levels other → IsOneWith one other
    → target_in (one ∷ other ∷ rest) page ≡ target_in (union one other ∷ rest) page
