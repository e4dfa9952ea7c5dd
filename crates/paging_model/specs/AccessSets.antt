-- Sets of accesses (SDM 3A, "Determination of Access Rights": the kinds of access), each kept as a number: an access has
-- a bit of it, and is in the set where that bit is 1.
use Rattle.std.specs.Prelude.{ℕ, ◌^◌, ◌&&◌, not, Bool, List, [], ◌∷◌, sum_by, if◌then◌else◌}
use Rattle.paging_model.specs.BitRanges.{bit}
use Rattle.paging_model.specs.declared.access.Access.{Access}
use Rattle.paging_model.specs.declared.access.Access.TheVariants.{Ur, Uw, Ux, Sr, Sw, Sx, Ir, Iw}

-- the bit of an access
abbrev pub access_bit : Access → ℕ
access_bit Ur = 0
access_bit Uw = 1
access_bit Ux = 2
access_bit Sr = 3
access_bit Sw = 4
access_bit Sx = 5
access_bit Ir = 6
access_bit Iw = 7

-- whether the set of a number has the access
abbrev pub has : ℕ → Access → Bool
has number access = bit number (access_bit access)

-- what an access adds to the number of a set, where it is a member
abbrev pub worth : (Access → Bool) → Access → ℕ
worth is_member access = if is_member access then 2 ^ access_bit access else 0

-- all accesses, by their bits
abbrev pub accesses : List Access
accesses = Ur ∷ Uw ∷ Ux ∷ Sr ∷ Sw ∷ Sx ∷ Ir ∷ Iw ∷ []

-- the number of a set: the sum of 2 to the bit of each member
abbrev pub set_number : (Access → Bool) → ℕ
set_number is_member = sum_by (worth is_member) accesses

-- the number of the members of one set that aren't in another
abbrev pub minus_of : ℕ → ℕ → ℕ
minus_of some other = set_number (λ access. has some access && not (has other access))
