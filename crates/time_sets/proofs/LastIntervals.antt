-- A list of intervals whose last one ends later.
use Rattle.std.proofs.Common.{◌≡◌, ℕ, zero, suc, ◌+◌, ◌-◌, ◌<◌, ◌≤◌, Bool, true, false, List, [], ◌∷◌, length, get_or, set, drop, ◌++◌, refl, ap, ◌∙◌, arith}
use Rattle.std.specs.Prelude.{◌||◌, max}
use Rattle.std.specs.List.{refill}
use Rattle.std.proofs.lemmas.List.{take_at, length-set}
use Rattle.std.proofs.lemmas.Bool.Decides.{nat_tests}
use Rattle.time_sets.specs.Sets.{is_within, has_time, AreApartFrom}
use Rattle.time_sets.specs.Ends.{BeginsAtLast, IsAfterLast, lengthen}

pub lengthen-set : (list : List (ℕ × ℕ)) (last n : ℕ) (d : ℕ × ℕ) → n + 1 ≡ length list
    → set list n ((get_or list n d).0, max (get_or list n d).1 last) ≡ lengthen list last
lengthen-set [] last n d h = absurd (omega arith)
lengthen-set (i ∷ []) last zero d h = refl
lengthen-set (i ∷ []) last (suc n) d h = absurd (omega arith)
lengthen-set (i ∷ j ∷ rest) last zero d h = absurd (omega arith)
lengthen-set (i ∷ j ∷ rest) last (suc n) d h = ap (λ more. i ∷ more) (lengthen-set (j ∷ rest) last n d (omega arith))

-- as the code writes it, through a borrow of the whole list
pub set-last : (list borrowed : List (ℕ × ℕ)) (last n end : ℕ) (d : ℕ × ℕ) → 0 < length list → borrowed ≡ list → n ≡ length list - 1 → end ≡ max (get_or borrowed n d).1 last
    → refill (length list) list (set borrowed n ((get_or borrowed n d).0, end)) ≡ lengthen list last
set-last list borrowed last n end d one same at is =
    rw (is, same, at)
    (whole list (set list (length list - 1) _) (length-set list (length list - 1) _) ∙ lengthen-set list last (length list - 1) d (omega arith))
  where
    whole : (list written : List (ℕ × ℕ)) → length written ≡ length list → refill (length list) list written ≡ written
    whole list written h = take_at written (drop (length written) list) (length list) h

pub lengthen-apart : (low : ℕ) (list : List (ℕ × ℕ)) (last : ℕ) → AreApartFrom low list → AreApartFrom low (lengthen list last)
lengthen-apart low [] last apart = tt
lengthen-apart low (i ∷ []) last apart = (apart.0, omega (arith, apart.1), tt)
lengthen-apart low (i ∷ j ∷ rest) last apart = (apart.0, apart.1, lengthen-apart (i.1 + 2) (j ∷ rest) last apart.2)

-- an interval that begins in the last one, or right after it
within-both : (i : ℕ × ℕ) (first last t : ℕ) → i.0 ≤ first → first ≤ i.1 + 1 → first ≤ last → is_within (i.0, max i.1 last) t ≡ (is_within i t || is_within (first, last) t)
within-both i first last t from to order = grind (arith, nat_tests)

or_assoc : (a b c : Bool) → (a || (b || c)) ≡ ((a || b) || c)
or_assoc true b c = refl
or_assoc false b c = refl

or_nil : (a b : Bool) → ((a || b) || false) ≡ ((a || false) || b)
or_nil true b = refl
or_nil false true = refl
or_nil false false = refl

has-lengthen : (list : List (ℕ × ℕ)) (first last n t : ℕ) (d : ℕ × ℕ) → n + 1 ≡ length list → (get_or list n d).0 ≤ first → first ≤ (get_or list n d).1 + 1 → first ≤ last
    → has_time (lengthen list last) t ≡ (has_time list t || is_within (first, last) t)
has-lengthen [] first last n t d h from to order = absurd (omega arith)
has-lengthen (i ∷ []) first last zero t d h from to order =
    ap (λ b. b || false) (within-both i first last t from to order) ∙ or_nil (is_within i t) (is_within (first, last) t)
has-lengthen (i ∷ []) first last (suc n) t d h from to order = absurd (omega arith)
has-lengthen (i ∷ j ∷ rest) first last zero t d h from to order = absurd (omega arith)
has-lengthen (i ∷ j ∷ rest) first last (suc n) t d h from to order =
    ap (λ b. is_within i t || b) (has-lengthen (j ∷ rest) first last n t d (omega arith) from to order)
    ∙ or_assoc (is_within i t) (has_time (j ∷ rest) t) (is_within (first, last) t)

pub lengthened-has : (list : List (ℕ × ℕ)) (first last t : ℕ) → BeginsAtLast list first → first ≤ last → has_time (lengthen list last) t ≡ (has_time list t || is_within (first, last) t)
lengthened-has list first last t at order =
    let one = at.some in
    has-lengthen list first last (length list - 1) t (0, 0) (omega arith) (at.from (0, 0)) (at.to (0, 0)) order

-- an interval after the last one that doesn't touch it
apart-more : (low first last : ℕ) (list : List (ℕ × ℕ)) (n : ℕ) (d : ℕ × ℕ) → AreApartFrom low list → n + 1 ≡ length list → (get_or list n d).1 + 1 < first → first ≤ last
    → AreApartFrom low (list ++ (first, last) ∷ [])
apart-more low first last [] n d apart h after order = absurd (omega arith)
apart-more low first last (i ∷ []) zero d apart h after order = (apart.0, apart.1, (omega (arith, after), order, tt))
apart-more low first last (i ∷ []) (suc n) d apart h after order = absurd (omega arith)
apart-more low first last (i ∷ j ∷ rest) zero d apart h after order = absurd (omega arith)
apart-more low first last (i ∷ j ∷ rest) (suc n) d apart h after order = (apart.0, apart.1, apart-more (i.1 + 2) first last (j ∷ rest) n d apart.2 (omega arith) after order)

pub pushed-apart : (list : List (ℕ × ℕ)) (first last : ℕ) → AreApartFrom 0 list → IsAfterLast list first → first ≤ last → AreApartFrom 0 (list ++ (first, last) ∷ [])
pushed-apart [] first last apart after order = (omega arith, order, tt)
pushed-apart (i ∷ rest) first last apart after order =
    apart-more 0 first last (i ∷ rest) (length (i ∷ rest) - 1) (0, 0) apart (omega arith) (after.apart (0, 0) (omega arith)) order

pub not-both : (list : List (ℕ × ℕ)) (first : ℕ) → BeginsAtLast list first → IsAfterLast list first → ⊥
not-both list first at after =
    let to = at.to (0, 0) in
    let apart = after.apart (0, 0) at.some in
    omega (arith, to, apart)
