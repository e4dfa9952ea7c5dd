-- The areas of a space's regions are the space's.
use Rattle.std.proofs.Common.{◌≡◌, ℕ, zero, suc, get_or, length, ◌<◌, inl, inr, Bool, Option, Some, None, List, [], ◌∷◌, refl, sym, ap, ◌∙◌, arith}
use Rattle.std.specs.Prelude.{All, IfOk, IsTrue, Result, Ok, Err, nat_le, ◌&&◌}
use Rattle.std.proofs.lemmas.Bool.{cases_lt}
use Rattle.paging_model.specs.LinearAddress.{is_canonical, IsPage}
use Rattle.paging_model.specs.Listings.{Stretch, IsStretch, AreStretches, AreApart, target_in, AreAreas, AreRegions, stretch_of_region}
use Rattle.paging_model.specs.Memory.{Memory}
use Rattle.paging_model.specs.Registers.{la57, settings_of, root_of}
use Rattle.paging_model.specs.Translations.{Target, Protection, granted_target}
use Rattle.paging_model.specs.declared.registers.Machine.{Machine}
use Rattle.paging_model.specs.declared.registers.Regs.{Regs}
use Rattle.paging_model.specs.declared.registers.Settings.{Settings}
use Rattle.paging_model.specs.declared.spaces.Area.{Area}
use Rattle.paging_model.specs.declared.spaces.Region.{Region}
use Rattle.region_map.specs.Coalesced.{ArePageRanges, range_target, stretches, target_at}
use Rattle.region_map.proofs.Joining.{target_in-within, target_in-outside}
use Rattle.area_list.specs.AreaLists.{AreAreasOf, area_stretches}
use Rattle.area_list.proofs.Keys.{target-key}
use Rattle.area_list.proofs.Orders.{apart-rest, chosen-none, none-after}

module _ {Kind : Type 0} where
  some_is_not_none : {target : Target Kind} → Some target ≡ None → ⊥
  some_is_not_none same = cc

  -- ranges that map canonical addresses alone
  pub are-stretches : (five_levels : Bool) (list : List (Stretch Kind)) → ArePageRanges list
      → ((x : ℕ) → (target_in list x ≡ None → ⊥) → IsTrue (is_canonical five_levels x)) → AreStretches five_levels list
  are-stretches five_levels [] ranges canonical = tt
  are-stretches five_levels (one ∷ rest) ranges canonical = (
    record {
      begins = ranges.0.begins;
      ends = ranges.0.ends;
      some = ranges.0.some;
      below = ranges.0.below;
      canonical = λ x from to. canonical x (λ none. some_is_not_none (sym (target_in-within one rest x from to) ∙ none));
    },
    are-stretches five_levels rest ranges.1
        (λ x some. canonical x (λ none. some (chosen-none (nat_le one.first x && nat_le x one.last) (range_target one x) (target_in rest x) none))),
  )

  maps-canonical : (five_levels : Bool) (list : List (Stretch Kind)) → AreStretches five_levels list
      → (x : ℕ) → (target_in list x ≡ None → ⊥) → IsTrue (is_canonical five_levels x)
  maps-canonical five_levels [] are x some = absurd (some refl)
  maps-canonical five_levels (one ∷ rest) are x some = elim (cases_lt x one.first) [
    | inl low ↦ maps-canonical five_levels rest are.1 x (λ none. some (target_in-outside one rest x (inl low) ∙ none))
    | inr from ↦ elim (cases_lt one.last x) [
      | inl high ↦ maps-canonical five_levels rest are.1 x (λ none. some (target_in-outside one rest x (inr high) ∙ none))
      | inr to ↦ are.0.canonical x from to
    ]
  ]

pub areas-listed : (memory : Memory) (machine : Machine) (regs : Regs) (regions : List Region) (areas : List Area)
    → AreRegions memory (settings_of regs machine) (root_of regs machine) regions → AreAreasOf regs regions areas → AreAreas memory machine regs areas
areas-listed memory machine regs regions areas listed are = record {
  stretches = are-stretches (la57 regs) (area_stretches areas) are.coalesced.ranges
      (λ x some. maps-canonical (la57 regs) (stretches regions) listed.stretches x
      (λ none. some (are.targets x ∙ ap (λ (it : Option (Target Protection)). granted_target regs x it) none)));
  apart = are.coalesced.apart;
  pages = λ page is. are.targets page ∙ ap (λ (it : Option (Target Protection)). granted_target regs page it) (listed.pages page is);
}

pub if_ok-weaker : {X E : Type 0} (result : Result X E) (P Q : X → Type 0) → ((x : X) → P x → Q x) → IfOk result P → IfOk result Q
if_ok-weaker (Ok x) P Q weaker holds = weaker x holds
if_ok-weaker (Err e) P Q weaker holds = tt

pub key-at : (five_levels : Bool) (regions : List Region) → AreStretches five_levels (stretches regions) → AreApart (stretches regions)
    → ((page : ℕ) (target : Target Protection) → IsPage five_levels page → target_at regions page ≡ Some target → target.kind.key < 16)
    → (k : ℕ) (d : Region) → k < length regions → (get_or regions k d).key < 16
key-at five_levels [] are apart few k d within = absurd (omega arith)
key-at five_levels (one ∷ rest) are apart few zero d within =
    few one.first (range_target (stretch_of_region one) one.first)
    (record { below = omega (arith, are.0.some, are.0.below); aligned = are.0.begins; canonical = are.0.canonical one.first (omega arith) (omega (arith, are.0.some)) })
    (target_in-within (stretch_of_region one) (stretches rest) one.first (omega arith) (omega (arith, are.0.some)))
key-at five_levels (one ∷ rest) are apart few (suc k) d within =
    key-at five_levels rest are.1 (apart-rest (stretch_of_region one) (stretches rest) apart)
    (λ page target is maps. few page target is (elim (cases_lt one.last page) [
      | inl high ↦ target_in-outside (stretch_of_region one) (stretches rest) page (inr high) ∙ maps
      | inr to ↦ absurd (some_is_not_none (sym maps ∙ none-after five_levels (stretch_of_region one) (stretches rest) are.1 apart page to))
    ]))
    k d (omega arith)

pub keys-listed : (memory : Memory) (settings : Settings) (root : ℕ) (regions : List Region) → AreRegions memory settings root regions
    → All (λ region. region.key < 16) regions
keys-listed memory settings root regions listed =
    key-at settings.la57 regions listed.stretches listed.apart
    (λ page target is maps. target-key memory settings root page target (sym (listed.pages page is) ∙ maps))

-- of each region
pub stretch-at : (five_levels : Bool) (regions : List Region) → AreStretches five_levels (stretches regions) → (k : ℕ) (d : Region) → k < length regions
    → IsStretch five_levels (stretch_of_region (get_or regions k d))
stretch-at five_levels [] are k d within = absurd (omega arith)
stretch-at five_levels (one ∷ rest) are zero d within = are.0
stretch-at five_levels (one ∷ rest) are (suc k) d within = stretch-at five_levels rest are.1 k d (omega arith)
