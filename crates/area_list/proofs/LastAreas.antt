-- A list of areas with one more after the others.
use Rattle.std.proofs.Common.{◌≡◌, ℕ, suc, ◌+◌, ◌-◌, ◌<◌, ◌≤◌, inl, inr, List, [], ◌∷◌, ◌++◌, sym, ap, ◌∙◌, subst, arith, take, drop, set, get_or, length}
use Rattle.std.specs.Prelude.{Bool, true, false, IsTrue, ◌↔◌}
use Rattle.std.proofs.lemmas.Bool.{cases_lt}
use Rattle.std.proofs.lemmas.List.{append-nil, map-append, take_all, take_more, drop_all, set_split, get_or_default}
use Rattle.paging_model.specs.Listings.{Stretch, IsOneWith, target_in, stretch_of_area}
use Rattle.paging_model.specs.declared.spaces.Area.{Area}
use Rattle.region_map.specs.Coalesced.{IsPageRange, AreCoalesced}
use Rattle.region_map.proofs.Joining.{IsListOf, IsPageRange-middle, among-after, among-apart, among-first, among-union, filled-among, union}
use Rattle.area_list.specs.AreaLists.{IsAppended, IsUnmappedFrom, JoinsLast, area_stretches, area_target}
use Rattle.area_list.proofs.Orders.{last-mapped}

abbrev Ranges : Type 0
Ranges = List (Stretch ℕ)

-- what the test of a list says, where the list was read as another name
pub join-of_test : (shown areas : List Area) (area : Area) (is : Bool) → shown ≡ areas → is ≡ true → (IsTrue is ↔ JoinsLast shown area) → JoinsLast areas area
join-of_test shown areas area is same is_true test = subst (λ (it : List Area). JoinsLast it area) same (test.0 is_true)

pub no_join-of_test : (shown areas : List Area) (area : Area) (is : Bool) → shown ≡ areas → is ≡ false → (IsTrue is ↔ JoinsLast shown area) → JoinsLast areas area → ⊥
no_join-of_test shown areas area is same is_false test joins =
    let is_true = test.1 (subst (λ (it : List Area). JoinsLast it area) (sym same) joins) in
    let never : false ≡ true = sym is_false ∙ is_true in
    cc

none_is : (areas : List Area) → length areas ≤ 0 → [] ≡ areas
none_is areas empty = take_all 0 areas empty

-- a list by its last area
module _ (areas : List Area) (d : Area) (some : 0 < length areas) where
  abbrev earlier : Ranges
  earlier = area_stretches (take (length areas - 1) areas)

  abbrev last : Area
  last = get_or areas (length areas - 1) d

  pub in-parts : area_stretches areas ≡ earlier ++ stretch_of_area last ∷ []
  in-parts =
      let e : length areas - 1 + 1 ≡ length areas = omega arith in
      ap area_stretches (sym (take_all (length areas) areas (omega arith)))
      ∙ (ap (λ (n : ℕ). area_stretches (take n areas)) (sym e)
      ∙ (ap area_stretches (take_more areas (length areas - 1) d (omega arith))
      ∙ map-append stretch_of_area (take (length areas - 1) areas) (last ∷ [])))

  pub last-range : AreCoalesced (area_stretches areas) → IsPageRange (stretch_of_area last)
  last-range coalesced =
      IsPageRange-middle earlier (stretch_of_area last) [] (subst (λ (it : Ranges). AreCoalesced it) in-parts coalesced).ranges

  pub last-before : (first : ℕ) → AreCoalesced (area_stretches areas) → IsUnmappedFrom first (area_target areas) → last.last < first
  last-before first coalesced none = elim (cases_lt last.last first) [
    | inl before ↦ before
    | inr from ↦
        let range = last-range coalesced in
        absurd (last-mapped earlier (stretch_of_area last) [] (omega (arith, range.some))
        (ap (λ (it : Ranges). target_in it last.last) (sym in-parts) ∙ none last.last from))
  ]

  -- a longer last area
  pub set-last : (longer : Area) → area_stretches (set areas (length areas - 1) longer) ≡ earlier ++ stretch_of_area longer ∷ []
  set-last longer =
      ap area_stretches (set_split areas (length areas - 1) longer (omega arith))
      ∙ (map-append stretch_of_area (take (length areas - 1) areas) (longer ∷ drop (suc (length areas - 1)) areas)
      ∙ ap (λ (it : List Area). earlier ++ stretch_of_area longer ∷ area_stretches it) (drop_all (suc (length areas - 1)) areas (omega arith)))

module _ (areas : List Area) (new : Area) (coalesced : AreCoalesced (area_stretches areas)) (range : IsPageRange (stretch_of_area new))
    (none : IsUnmappedFrom new.first (area_target areas)) where
  abbrev one : Stretch ℕ
  one = stretch_of_area new

  -- what maps all that the areas and the new one map is the list with the new one
  appended : (all : List Area) (list : Ranges) → IsListOf list (area_stretches areas ++ one ∷ []) → area_stretches all ≡ list → IsAppended new areas all
  appended all list of same =
      let filled = filled-among (area_stretches areas) [] one (λ x from to. ap (λ (it : Ranges). target_in it x) (append-nil (area_stretches areas)) ∙ none x from) in
      let maps : (x : ℕ) → area_target all x ≡ target_in (area_stretches areas ++ one ∷ []) x =
      λ x. ap (λ (it : Ranges). target_in it x) same ∙ of.same x in
      record {
        coalesced = subst (λ (it : Ranges). AreCoalesced it) (sym same) of.coalesced;
        filled = record {
          inside = λ x from to. maps x ∙ filled.inside x from to;
          outside = λ x out. maps x ∙ (filled.outside x out ∙ ap (λ (it : Ranges). target_in it x) (append-nil (area_stretches areas)));
        };
      }

  with-nothing : (some : 0 < length areas) → AreCoalesced ((earlier areas new some ++ stretch_of_area (last areas new some) ∷ []) ++ [])
  with-nothing some =
      subst (λ (it : Ranges). AreCoalesced it) (in-parts areas new some ∙ sym (append-nil (earlier areas new some ++ stretch_of_area (last areas new some) ∷ []))) coalesced

  -- in the last one
  pub appended-joined : (read : Area) → read ≡ get_or areas (length areas - 1) read → JoinsLast areas new
      → IsAppended new areas (set areas (length areas - 1) (record { first = read.first; last = new.last; frame = read.frame; rights = read.rights }))
  appended-joined read is_read joins =
      let some = joins.0 in
      let longer : Area = record { first = read.first; last = new.last; frame = read.frame; rights = read.rights } in
      let same : stretch_of_area longer ≡ union (stretch_of_area (last areas new some)) one =
      ap (λ (it : Area). union (stretch_of_area it) one) (is_read ∙ get_or_default areas (length areas - 1) read new (omega arith)) in
      let among = among-union (earlier areas new some) (stretch_of_area (last areas new some)) one [] (with-nothing some) range tt (joins.1 new) in
      appended (set areas (length areas - 1) longer) (earlier areas new some ++ union (stretch_of_area (last areas new some)) one ∷ [])
      (subst (λ (it : Ranges). IsListOf (earlier areas new some ++ union (stretch_of_area (last areas new some)) one ∷ []) (it ++ one ∷ []))
      (sym (in-parts areas new some))
      (among-apart (earlier areas new some) (union (stretch_of_area (last areas new some)) one) [] _ among (λ more. more)))
      (set-last areas new some longer ∙ ap (λ (it : Stretch ℕ). earlier areas new some ++ it ∷ []) same)

  -- by itself
  pub appended-apart : (JoinsLast areas new → ⊥) → IsAppended new areas (areas ++ new ∷ [])
  appended-apart not =
      appended (areas ++ new ∷ []) (area_stretches areas ++ one ∷ [])
      (elim (cases_lt 0 (length areas)) [
        | inl some ↦
            subst (λ (it : Ranges). IsListOf (it ++ one ∷ []) (it ++ one ∷ [])) (sym (in-parts areas new some))
            (among-apart (earlier areas new some ++ stretch_of_area (last areas new some) ∷ []) one [] _
            (among-after (earlier areas new some) (stretch_of_area (last areas new some)) one [] (with-nothing some) range tt
            (last-before areas new some new.first coalesced none)
            (λ joins. not (some, λ d. subst (λ (it : Area). IsOneWith (stretch_of_area it) one) (get_or_default areas (length areas - 1) new d (omega arith)) joins)))
            (λ more. more))
        | inr empty ↦
            subst (λ (it : List Area). IsListOf (area_stretches it ++ one ∷ []) (area_stretches it ++ one ∷ [])) (none_is areas (omega arith))
            (among-apart [] one [] _ (among-first one [] (record { ranges = tt; apart = tt }) range tt) (λ more. more))
      ])
      (map-append stretch_of_area areas (new ∷ []))
