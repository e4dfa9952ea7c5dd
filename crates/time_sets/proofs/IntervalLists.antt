-- Lists of intervals that don't touch: what is in them, and how they grow at their end.
use Rattle.std.proofs.Common.{◌≡◌, ℕ, ◌+◌, ◌<◌, ◌≤◌, ◌&&◌, Bool, true, false, List, [], ◌∷◌, ◌++◌, length, refl, ap, ◌∙◌, arith}
use Rattle.std.specs.Prelude.{◌||◌, ◌==◌, nat_le, min, max, IsTrue}
use Rattle.std.proofs.lemmas.Bool.Decides.{nat_tests}
use Rattle.time_sets.specs.Sets.{is_within, has_time, AreApartFrom}
use Rattle.time_sets.specs.Ends.{CanFollow}

pub apart-lower : (low lower : ℕ) (list : List (ℕ × ℕ)) → lower ≤ low → AreApartFrom low list → AreApartFrom lower list
apart-lower low lower [] h a = tt
apart-lower low lower (i ∷ rest) h a = (omega (arith, a.0), a.1, a.2)

-- nothing is in it below where it begins
pub has-below : (low t : ℕ) (list : List (ℕ × ℕ)) → AreApartFrom low list → t < low → has_time list t ≡ false
has-below low t [] a h = refl
has-below low t (i ∷ rest) a h =
    let later : has_time rest t ≡ false = has-below (i.1 + 2) t rest a.2 (omega (arith, a.0, a.1)) in
    grind (arith, nat_tests, later, a.0)

pub has-append : (xs ys : List (ℕ × ℕ)) (t : ℕ) → has_time (xs ++ ys) t ≡ (has_time xs t || has_time ys t)
has-append [] ys t = refl
has-append (x ∷ xs) ys t = or_onto (is_within x t) _ _ _ (has-append xs ys t)
  where
    or_onto : (a b c d : Bool) → b ≡ (c || d) → (a || b) ≡ ((a || c) || d)
    or_onto true b c d h = refl
    or_onto false b c d h = h

pub follow-nothing : CanFollow [] 0
follow-nothing = record { onward = λ more a. a }

pub follow-greater : (list : List (ℕ × ℕ)) (low greater : ℕ) → low ≤ greater → CanFollow list low → CanFollow list greater
follow-greater list low greater h follow = record { onward = λ more a. follow.onward more (apart-lower greater low more h a) }

append-assoc : (xs ys zs : List (ℕ × ℕ)) → (xs ++ ys) ++ zs ≡ xs ++ (ys ++ zs)
append-assoc [] ys zs = refl
append-assoc (x ∷ xs) ys zs = ap (λ rest. x ∷ rest) (append-assoc xs ys zs)

pub follow-more : (list : List (ℕ × ℕ)) (low : ℕ) (i : ℕ × ℕ) → CanFollow list low → low ≤ i.0 → i.0 ≤ i.1 → CanFollow (list ++ i ∷ []) (i.1 + 2)
follow-more list low i follow h order =
    record { onward = λ more a. rw (append-assoc list (i ∷ []) more) (follow.onward (i ∷ more) (h, order, a)) }

append-nil : (xs : List (ℕ × ℕ)) → xs ++ [] ≡ xs
append-nil [] = refl
append-nil (x ∷ xs) = ap (λ rest. x ∷ rest) (append-nil xs)

pub follow-apart : (list : List (ℕ × ℕ)) (low : ℕ) → CanFollow list low → AreApartFrom 0 list
follow-apart list low follow = rw (append-nil list) at (follow.onward [] tt)

-- of two sets the numbers in both, where the first interval of one is done with
and_or : (a b c d : Bool) → (a && d) ≡ false → ((a || c) && (b || d)) ≡ ((a && b) || (c && (b || d)))
and_or true true c d h = refl
and_or true false c true h = absurd (cc)
and_or true false true false h = refl
and_or true false false false h = refl
and_or false b c d h = refl

or_and : (a b c d : Bool) → (c && b) ≡ false → ((a || c) && (b || d)) ≡ ((a && b) || ((a || c) && d))
or_and true true c d h = refl
or_and true false c d h = refl
or_and false true true d h = absurd (cc)
or_and false true false d h = refl
or_and false false c d h = refl

apart_within : (i : ℕ × ℕ) (list : List (ℕ × ℕ)) (low t : ℕ) → i.1 < low → AreApartFrom low list → (is_within i t && has_time list t) ≡ false
apart_within i list low t h a = by_test (nat_le t i.1) refl
  where
    by_test : (b : Bool) → nat_le t i.1 ≡ b → (is_within i t && has_time list t) ≡ false
    by_test true e =
        let below : has_time list t ≡ false = has-below low t list a (grind (arith, nat_tests)) in
        grind (arith, nat_tests, below)
    by_test false e = grind (arith, nat_tests, e)

and_swap : (a b : Bool) → (a && b) ≡ (b && a)
and_swap true true = refl
and_swap true false = refl
and_swap false true = refl
and_swap false false = refl

pub meet-left : (a b : ℕ × ℕ) (rest others : List (ℕ × ℕ)) (t : ℕ) → a.1 < b.1 → AreApartFrom (b.1 + 2) others
    → (has_time (a ∷ rest) t && has_time (b ∷ others) t) ≡ ((is_within a t && is_within b t) || (has_time rest t && has_time (b ∷ others) t))
meet-left a b rest others t h apart =
    and_or (is_within a t) (is_within b t) (has_time rest t) (has_time others t) (apart_within a others (b.1 + 2) t (omega arith) apart)

pub meet-right : (a b : ℕ × ℕ) (rest others : List (ℕ × ℕ)) (t : ℕ) → b.1 ≤ a.1 → AreApartFrom (a.1 + 2) rest
    → (has_time (a ∷ rest) t && has_time (b ∷ others) t) ≡ ((is_within a t && is_within b t) || (has_time (a ∷ rest) t && has_time others t))
meet-right a b rest others t h apart =
    or_and (is_within a t) (is_within b t) (has_time rest t) (has_time others t)
    (and_swap (has_time rest t) (is_within b t) ∙ apart_within b rest (a.1 + 2) t (omega arith) apart)

-- the numbers in two intervals
pub both_within : (a b : ℕ × ℕ) (t : ℕ) → (is_within a t && is_within b t) ≡ is_within (max a.0 b.0, min a.1 b.1) t
both_within a b t = grind (arith, nat_tests)

pub none_within : (i : ℕ × ℕ) (t : ℕ) → i.1 < i.0 → is_within i t ≡ false
none_within i t h = grind (arith, nat_tests)

-- a list of intervals has a member
pub empty_members : (low : ℕ) (list : List (ℕ × ℕ)) → AreApartFrom low list → ((t : ℕ) → has_time list t ≡ false) → list ≡ []
empty_members low [] a h = refl
empty_members low (i ∷ rest) a h = let none : has_time (i ∷ rest) i.0 ≡ false = h i.0 in absurd (grind (arith, nat_tests, none, a.1))

pub empty_is : (list : List (ℕ × ℕ)) (result : Bool) → AreApartFrom 0 list → result ≡ (length list == 0) → (IsTrue result → (t : ℕ) → has_time list t ≡ false) × (((t : ℕ) → has_time list t ≡ false) → IsTrue result)
empty_is [] result a e = rw e ((λ h t. refl), (λ h. refl))
empty_is (i ∷ rest) result a e = (
  (λ h t. let e' : result ≡ false = grind (arith, nat_tests, e) in absurd (cc (e', h))),
  (λ h. let none : (i ∷ rest) ≡ [] = empty_members 0 (i ∷ rest) a h in absurd (grind (arith, none))),
)

or_nil : (a : Bool) → (a || false) ≡ a
or_nil true = refl
or_nil false = refl

pub has-last : (list : List (ℕ × ℕ)) (i : ℕ × ℕ) (t : ℕ) → has_time (list ++ i ∷ []) t ≡ (has_time list t || is_within i t)
has-last list i t = has-append list (i ∷ []) t ∙ ap (λ b. has_time list t || b) (or_nil (is_within i t))
