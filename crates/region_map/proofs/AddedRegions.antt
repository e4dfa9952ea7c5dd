-- A region more in a list, at its place.
use Rattle.std.proofs.Common.{◌≡◌, ℕ, suc, ◌+◌, ◌-◌, ◌<◌, ◌≤◌, inl, inr, List, [], ◌∷◌, ◌++◌, refl, sym, ap, ◌∙◌, subst, arith, take, drop, set, get_or, length}
use Rattle.std.specs.Prelude.{Bool, true, false, IsTrue, ◌↔◌}
use Rattle.std.specs.List.{remove}
use Rattle.std.specs.List.Sorted.{IsPartitionPoint}
use Rattle.std.proofs.lemmas.Bool.{cases_lt}
use Rattle.std.proofs.lemmas.List.{map-append, take_more, drop_more, drop_all, get_or_default, set_split, take_more_set, drop-set-lt}
use Rattle.std.proofs.Math.Seq.{take-length, drop-length}
use Rattle.paging_model.specs.Listings.{Stretch, IsOneWith, stretch_of_region, target_in}
use Rattle.paging_model.specs.Translations.{Protection}
use Rattle.paging_model.specs.declared.spaces.Region.{Region}
use Rattle.region_map.specs.Coalesced.{IsPageRange, AreCoalesced, IsUnmapped, stretches, target_at}
use Rattle.region_map.specs.Places.{IsAdded, IsPlace, JoinsNext, JoinsPrevious}
use Rattle.region_map.proofs.Joining.{BeginsAfter, IsAmong, IsListOf, JoinsFirst, JoinsFirst-union, among-after, among-apart, among-first, among-joined, among-union, append-one, filled-among, union, union-joins, unmapped-after}
use Rattle.region_map.proofs.Indices.{parts-at, range-at}

abbrev Ranges : Type 0
Ranges = List (Stretch Protection)

-- what a test of a list says of it, where it was read as another name
pub yes : {shown items : List Region} {is : Bool} (Holds : List Region → Type 0) → shown ≡ items → is ≡ true → (IsTrue is ↔ Holds shown) → Holds items
yes Holds same is_true test = subst Holds same (test.0 is_true)

pub no : {shown items : List Region} {is : Bool} (Holds : List Region → Type 0) → shown ≡ items → is ≡ false → (IsTrue is ↔ Holds shown) → Holds items → ⊥
no Holds same is_false test holds =
    let is_true = test.1 (subst Holds (sym same) holds) in
    let never : false ≡ true = sym is_false ∙ is_true in
    cc

-- the list up to a place and from it on, with the new region between them
module _ (items : List Region) (place : ℕ) (new : Region) (coalesced : AreCoalesced (stretches items)) (range : IsPageRange (stretch_of_region new))
    (unmapped : IsUnmapped (stretch_of_region new) (target_at items)) (is : IsPlace items place new) where
  abbrev until : Ranges
  until = stretches (take place items)

  abbrev onward : Ranges
  onward = stretches (drop place items)

  abbrev one : Stretch Protection
  one = stretch_of_region new

  abbrev previous : Region
  previous = get_or items (place - 1) new

  abbrev left : Stretch Protection
  left = stretch_of_region previous

  abbrev next : Region
  next = get_or items place new

  abbrev right : Stretch Protection
  right = stretch_of_region next

  -- without the neighbours
  abbrev earlier : Ranges
  earlier = stretches (take (place - 1) items)

  abbrev rest : Ranges
  rest = stretches (drop (suc place) items)

  abbrev whole : Ranges
  whole = until ++ one ∷ onward

  in-parts : AreCoalesced (until ++ onward)
  in-parts = subst (λ (it : Ranges). AreCoalesced it) (parts-at items place) coalesced

  -- what maps all that they map is the list with the region added
  added : (all : List Region) (list : Ranges) → IsListOf list whole → stretches all ≡ list → IsAdded new items all
  added all list of same =
      let parts = parts-at items place in
      let filled = filled-among until onward one
      (λ x from to. ap (λ (it : Ranges). target_in it x) (sym parts) ∙ unmapped x from to) in
      let maps : (x : ℕ) → target_at all x ≡ target_in whole x = λ x. ap (λ (it : Ranges). target_in it x) same ∙ of.same x in
      record {
        coalesced = subst (λ (it : Ranges). AreCoalesced it) (sym same) of.coalesced;
        filled = record {
          inside = λ x from to. maps x ∙ filled.inside x from to;
          outside = λ x out. maps x ∙ (filled.outside x out ∙ ap (λ (it : Ranges). target_in it x) (sym parts));
        };
      }

  from-next : place < length items → onward ≡ right ∷ rest
  from-next there =
      let e : place + 1 ≡ suc place = omega arith in
      ap stretches (drop_more items place new there) ∙ ap (λ (n : ℕ). right ∷ stretches (drop n items)) e

  begins-after : BeginsAfter one onward
  begins-after = elim (cases_lt place (length items)) [
    | inl there ↦ subst (λ (it : Ranges). BeginsAfter one it) (sym (from-next there)) (is.after new there)
    | inr past ↦ subst (λ (it : List Region). BeginsAfter one (stretches it)) (sym (drop_all place items past)) tt
  ]

  joins-first : JoinsFirst one onward → JoinsNext items place new
  joins-first joins = elim (cases_lt place (length items)) [
    | inl there ↦
        let joined = subst (λ (it : Ranges). JoinsFirst one it) (from-next there) joins in
        (there, λ d. subst (λ (it : Region). IsOneWith one (stretch_of_region it)) (get_or_default items place new d there) joined)
    | inr past ↦ absurd (subst (λ (it : List Region). JoinsFirst one (stretches it)) (drop_all place items past) joins)
  ]

  to-previous : 0 < place → take place items ≡ take (place - 1) items ++ previous ∷ []
  to-previous some =
      let e : place - 1 + 1 ≡ place = omega arith in
      ap (λ (n : ℕ). take n items) (sym e) ∙ take_more items (place - 1) new (omega (arith, is.within))

  stretches-previous : 0 < place → until ≡ earlier ++ left ∷ []
  stretches-previous some = ap stretches (to-previous some) ∙ map-append stretch_of_region (take (place - 1) items) (previous ∷ [])

  with-previous : 0 < place
      → AreCoalesced ((earlier ++ left ∷ []) ++ onward)
  with-previous some =
      subst (λ (it : Ranges). AreCoalesced (it ++ onward)) (stretches-previous some) in-parts

  -- the new region stands among the others, or makes one with that before it
  by-itself : (JoinsPrevious items place new → ⊥) → IsAmong until one onward whole
  by-itself not = elim (cases_lt 0 place) [
    | inl some ↦
        subst (λ (it : Ranges). IsAmong it one onward (it ++ one ∷ onward))
        (sym (stretches-previous some))
        (among-after earlier left one onward
        (with-previous some) range begins-after (is.before new some)
        (λ joins. not (some, λ d. subst (λ (it : Region). IsOneWith (stretch_of_region it) one) (get_or_default items (place - 1) new d (omega (arith, is.within))) joins)))
    | inr none ↦
        let e : place ≡ 0 = omega arith in
        let first : until ≡ [] = ap (λ (n : ℕ). stretches (take n items)) e in
        subst (λ (it : Ranges). IsAmong it one onward (it ++ one ∷ onward))
        (sym first)
        (among-first one onward
        (subst (λ (it : Ranges). AreCoalesced (it ++ onward)) first in-parts) range begins-after)
  ]

  abbrev both : Stretch Protection
  both = union left one

  as-one : JoinsPrevious items place new → IsAmong earlier both onward whole
  as-one joins =
      subst (λ (it : Ranges). IsAmong earlier both onward (it ++ one ∷ onward))
      (sym (stretches-previous joins.0))
      (among-union earlier left one onward
      (with-previous joins.0) range begins-after (joins.1 new))

  -- by itself
  pub added-apart : (all : List Region) → (JoinsPrevious items place new → ⊥) → (JoinsNext items place new → ⊥)
      → all ≡ take place items ++ new ∷ drop place items → IsAdded new items all
  added-apart all not not_next same =
      added all whole
      (among-apart until one onward whole (by-itself not) (λ joins. not_next (joins-first joins)))
      (ap stretches same ∙ map-append stretch_of_region (take place items) (new ∷ drop place items))

  set-previous : (longer : Region) → 0 < place
      → stretches (set items (place - 1) longer) ≡ earlier ++ stretch_of_region longer ∷ onward
  set-previous longer some =
      let e : suc (place - 1) ≡ place = omega arith in
      ap stretches (set_split items (place - 1) longer (omega (arith, is.within)))
      ∙ (map-append stretch_of_region (take (place - 1) items) (longer ∷ drop (suc (place - 1)) items)
      ∙ ap (λ (n : ℕ). earlier ++ stretch_of_region longer ∷ stretches (drop n items)) e)

  previous-order : 0 < place → left.first ≤ new.first
  previous-order some =
      let range = range-at items (place - 1) new coalesced.ranges (omega (arith, is.within)) in omega (arith, range.some, is.before new some)

  is-previous : (read : Region) → read ≡ get_or items (place - 1) read → 0 < place → read ≡ previous
  is-previous read is_read some = is_read ∙ get_or_default items (place - 1) read new (omega (arith, is.within))

  -- as one with that before it
  pub added-previous : (read : Region) → read ≡ get_or items (place - 1) read → JoinsPrevious items place new → (JoinsNext items place new → ⊥)
      → IsAdded new items (set items (place - 1) (record { first = read.first; last = new.last; frame = read.frame; bits = read.bits; key = read.key }))
  added-previous read is_read joins not =
      let longer : Region = record { first = read.first; last = new.last; frame = read.frame; bits = read.bits; key = read.key } in
      let same : stretch_of_region longer ≡ both =
      ap (λ (it : Region). union (stretch_of_region it) one) (is-previous read is_read joins.0) in
      added (set items (place - 1) longer) (earlier ++ both ∷ onward)
      (among-apart earlier both onward whole (as-one joins)
      (λ more. not (joins-first (JoinsFirst-union left one onward
      (previous-order joins.0) (omega (arith, range.some)) (joins.1 new) begins-after more))))
      (set-previous longer joins.0 ∙ ap (λ (it : Stretch Protection). earlier ++ it ∷ onward) same)

  -- as one with that after it
  pub added-next : (read : Region) → read ≡ get_or items place read → (JoinsPrevious items place new → ⊥) → JoinsNext items place new
      → IsAdded new items (set items place (record { first = new.first; last = read.last; frame = new.frame; bits = new.bits; key = new.key }))
  added-next read is_read not joins =
      let longer : Region = record { first = new.first; last = read.last; frame = new.frame; bits = new.bits; key = new.key } in
      let same : stretch_of_region longer ≡ union one right =
      ap (λ (it : Region). union one (stretch_of_region it)) (is_read ∙ get_or_default items place read new joins.0) in
      added (set items place longer) (until ++ union one right ∷ rest)
      (among-joined until one right rest whole
      (subst (λ (it : Ranges). IsAmong until one it whole) (from-next joins.0) (by-itself not))
      (joins.1 new))
      (ap stretches (set_split items place longer joins.0)
      ∙ (map-append stretch_of_region (take place items) (longer ∷ drop (suc place) items)
      ∙ ap (λ (it : Stretch Protection). until ++ it ∷ rest) same))

  -- as one with both
  pub added-between : (read second : Region) (all : List Region) → read ≡ get_or items (place - 1) read → second ≡ get_or items place second
      → JoinsPrevious items place new → JoinsNext items place new
      → all ≡ remove (set items (place - 1) (record { first = read.first; last = second.last; frame = read.frame; bits = read.bits; key = read.key })) place
      → IsAdded new items all
  added-between read second all is_read is_second joins more removed =
      let longer : Region = record { first = read.first; last = second.last; frame = read.frame; bits = read.bits; key = read.key } in
      let same : stretch_of_region longer ≡ union both right =
      ap (λ (it : Region). union (union (stretch_of_region it) one) (stretch_of_region second)) (is-previous read is_read joins.0)
      ∙ ap (λ (it : Region). union both (stretch_of_region it)) (is_second ∙ get_or_default items place second new more.0) in
      let up_to : take place (set items (place - 1) longer) ≡ take (place - 1) items ++ longer ∷ [] =
      (let e : place - 1 + 1 ≡ place = omega (arith, joins.0) in
      ap (λ (n : ℕ). take n (set items (place - 1) longer)) (sym e) ∙ take_more_set items (place - 1) longer (omega (arith, is.within, joins.0))) in
      let later : drop (suc place) (set items (place - 1) longer) ≡ drop (suc place) items = drop-set-lt (suc place) items (place - 1) longer (omega arith) in
      let next_first : new.first ≤ next.first = omega (arith, range.some, is.after new more.0) in
      added all
      (earlier ++ union both right ∷ rest)
      (among-joined earlier both right rest whole
      (subst (λ (it : Ranges). IsAmong earlier both it whole) (from-next more.0) (as-one joins))
      (union-joins left one right (previous-order joins.0) next_first (joins.1 new) (more.1 new)))
      (ap stretches (removed ∙ (ap (λ (it : List Region). it ++ drop (suc place) (set items (place - 1) longer)) up_to
      ∙ ap (λ (it : List Region). (take (place - 1) items ++ longer ∷ []) ++ it) later))
      ∙ (map-append stretch_of_region (take (place - 1) items ++ longer ∷ []) (drop (suc place) items)
      ∙ (ap (λ (it : Ranges). it ++ rest) (map-append stretch_of_region (take (place - 1) items) (longer ∷ []))
      ∙ (append-one earlier (stretch_of_region longer) rest
      ∙ ap (λ (it : Stretch Protection). earlier ++ it ∷ rest) same))))

place-at : (items : List Region) (place : ℕ) (new : Region) → AreCoalesced (stretches items) → IsPageRange (stretch_of_region new)
    → IsUnmapped (stretch_of_region new) (target_at items) → place ≤ length items
    → IsPartitionPoint (λ (one : Region). one.last < new.first) (λ (one : Region). new.first ≤ one.last) items place → IsPlace items place new
place-at items place new coalesced range unmapped within point = record {
  within = within;
  before = λ d some. point.0 (place - 1) d (omega arith) (omega arith);
  after = λ d there.
      unmapped-after (stretches (take place items)) (stretch_of_region new) (stretch_of_region (get_or items place d)) (stretches (drop (place + 1) items))
      range (range-at items place d coalesced.ranges there) (point.1 place d (omega arith) there)
      (λ x from to. ap (λ (it : List (Stretch Protection)). target_in it x)
      (sym (parts-at items place ∙ ap (λ (it : List Region). stretches (take place items) ++ stretches it) (drop_more items place d there)))
      ∙ unmapped x from to);
}

-- a region that doesn't meet the others has its place before the first that doesn't end before it
pub place-of_unmapped : (items shown : List Region) (place : ℕ) (new : Region) → shown ≡ items → AreCoalesced (stretches items) → IsPageRange (stretch_of_region new)
    → IsUnmapped (stretch_of_region new) (target_at items) → place ≤ length shown
    → IsPartitionPoint (λ (one : Region). one.last < new.first) (λ (one : Region). new.first ≤ one.last) shown place → IsPlace items place new
place-of_unmapped items shown place new same coalesced range unmapped bound point =
    place-at items place new coalesced range unmapped (subst (λ (it : List Region). place ≤ length it) same bound)
    (subst (λ (it : List Region). IsPartitionPoint (λ (one : Region). one.last < new.first) (λ (one : Region). new.first ≤ one.last) it place) same point)

-- after all others there is none to make one with
pub none-after : (items : List Region) (new : Region) (place : ℕ) → place ≡ length items → JoinsNext items place new → ⊥
none-after items new place all joins = omega (arith, joins.0, all)

pub pushed-last : (items : List Region) (new : Region) (place : ℕ) → place ≡ length items → items ++ new ∷ [] ≡ take place items ++ new ∷ drop place items
pushed-last items new place all = sym (rw (all, take-length items, drop-length items) refl)
