-- What the registers grant of regions, added to areas.
use Rattle.std.proofs.Common.{◌≡◌, ℕ, ◌+◌, ◌-◌, ◌<◌, ◌≤◌, ◌⊎◌, inl, inr, Bool, Option, Some, None, List, [], ◌∷◌, ◌++◌, refl, sym, ap, ◌∙◌, subst, take, drop, get_or, length}
use Rattle.std.proofs.lemmas.Bool.{cases_lt}
use Rattle.std.proofs.lemmas.List.{append-nil, map-append, take_all, take_more, drop_more}
use Rattle.paging_model.specs.AccessSets.{set_number}
use Rattle.paging_model.specs.Listings.{Stretch, target_in, stretch_of_region}
use Rattle.paging_model.specs.Registers.{la57}
use Rattle.paging_model.specs.Translations.{Target, Protection, granted_target, rights_of}
use Rattle.paging_model.specs.declared.access.Access.{Access}
use Rattle.paging_model.specs.declared.access.Access.TheVariants.{Ur, Uw, Ux, Sr, Sw, Sx, Ir, Iw}
use Rattle.paging_model.specs.declared.registers.Regs.{Regs}
use Rattle.paging_model.specs.declared.spaces.Area.{Area}
use Rattle.paging_model.specs.declared.spaces.Region.{Region}
use Rattle.region_map.specs.Coalesced.{AreCoalesced, IsFilled, stretches, target_at}
use Rattle.region_map.proofs.Indices.{parts-at}
use Rattle.region_map.proofs.Joining.{filled-among}
use Rattle.area_list.specs.AreaLists.{AreAreasOf, IsAppended, IsGrantAdded, IsUnmappedFrom, area_stretches, area_target}
use Rattle.paging_laws.specs.ReachedAddresses.{AreOfOneZone}
use Rattle.area_list.specs.ReachSets.{IsReachOf}
use Rattle.area_list.proofs.Orders.{none-before}
use Rattle.paging_laws.proofs.ZoneLaws.{reaches-zone}

-- sets with the same members have one number
pub set_number-same : (one other : Access → Bool) → ((access : Access) → one access ≡ other access) → set_number one ≡ set_number other
set_number-same one other same = rw (same Ur, same Uw, same Ux, same Sr, same Sw, same Sx, same Ir, same Iw) refl

-- an area with the rights of a part's first address has those of all its addresses
pub part-added : (regs : Regs) (part : Region) (rights reached : ℕ) (old new : List Area)
    → ((x : ℕ) → IsReachOf regs x reached → rights ≡ rights_of regs x (record { bits = part.bits; key = part.key }))
    → IsReachOf regs part.first reached → ((x : ℕ) → part.first ≤ x → x ≤ part.last → AreOfOneZone (la57 regs) part.first x)
    → IsAppended (record { first = part.first; last = part.last; frame = part.frame; rights = rights }) old new
    → IsGrantAdded regs part old new
part-added regs part rights reached old new permitted at_first zone added = record {
  coalesced = added.coalesced;
  inside = λ x from to.
      added.filled.inside x from to
      ∙ ap (λ (n : ℕ). Some (record { frame = part.frame + (x - part.first); kind = n }))
      (permitted x (λ access. at_first access ∙ reaches-zone regs access part.first x (zone x from to)));
  outside = added.filled.outside;
}

-- the regions up to one, and that one
module _ (regs : Regs) (regions : List Region) (i : ℕ) (d : Region) (there : i < length regions) (coalesced : AreCoalesced (stretches regions)) where
  abbrev before : List (Stretch Protection)
  before = stretches (take i regions)

  abbrev one : Region
  one = get_or regions i d

  in-parts : stretches regions ≡ before ++ stretch_of_region one ∷ stretches (drop (i + 1) regions)
  in-parts = parts-at regions i ∙ ap (λ (it : List Region). before ++ stretches it) (drop_more regions i d there)

  none-from : (x : ℕ) → one.first ≤ x → target_at (take i regions) x ≡ None
  none-from x from =
      let parted = subst (λ (it : List (Stretch Protection)). AreCoalesced it) in-parts coalesced in
      none-before before (stretch_of_region one) (stretches (drop (i + 1) regions)) parted.ranges parted.apart x from

  -- the areas of those before it
  module _ (areas : List Area) (targets : (x : ℕ) → area_target areas x ≡ granted_target regs x (target_at (take i regions) x)) where
    pub areas-unmapped : IsUnmappedFrom one.first (area_target areas)
    areas-unmapped x from = targets x ∙ ap (λ (it : Option (Target Protection)). granted_target regs x it) (none-from x from)

    with-one : IsFilled (stretch_of_region one) (target_at (take i regions)) (target_at (take (i + 1) regions))
    with-one =
        let nothing : (x : ℕ) → target_in (before ++ []) x ≡ target_at (take i regions) x =
        λ x. ap (λ (it : List (Stretch Protection)). target_in it x) (append-nil before) in
        let filled = filled-among before [] (stretch_of_region one) (λ x from to. nothing x ∙ none-from x from) in
        let more : stretches (take (i + 1) regions) ≡ before ++ stretch_of_region one ∷ [] =
        ap stretches (take_more regions i d there) ∙ map-append stretch_of_region (take i regions) (one ∷ []) in
        let maps : (x : ℕ) → target_at (take (i + 1) regions) x ≡ target_in (before ++ stretch_of_region one ∷ []) x =
        λ x. ap (λ (it : List (Stretch Protection)). target_in it x) more in
        record {
          inside = λ x from to. maps x ∙ filled.inside x from to;
          outside = λ x out. maps x ∙ (filled.outside x out ∙ nothing x);
        }

    pub targets-next : (new : List Area) → IsGrantAdded regs one areas new
        → (x : ℕ) → area_target new x ≡ granted_target regs x (target_at (take (i + 1) regions) x)
    targets-next new added x =
        let filled = with-one in
        let granted : (target : Option (Target Protection)) → target_at (take (i + 1) regions) x ≡ target
        → granted_target regs x target ≡ granted_target regs x (target_at (take (i + 1) regions) x) =
        λ target is. ap (λ (it : Option (Target Protection)). granted_target regs x it) (sym is) in
        let outside : ((x < one.first) ⊎ (one.last < x)) → area_target new x ≡ granted_target regs x (target_at (take (i + 1) regions) x) =
        λ out. added.outside x out ∙ (targets x ∙ granted _ (filled.outside x out)) in
        elim (cases_lt x one.first) [
          | inl low ↦ outside (inl low)
          | inr from ↦ elim (cases_lt one.last x) [
            | inl high ↦ outside (inr high)
            | inr to ↦ added.inside x from to ∙ granted _ (filled.inside x from to)
          ]
        ]

-- the areas of all regions
pub areas-of_all : (regs : Regs) (regions : List Region) (i : ℕ) (areas : List Area) → length regions ≤ i → AreCoalesced (area_stretches areas)
    → ((x : ℕ) → area_target areas x ≡ granted_target regs x (target_at (take i regions) x)) → AreAreasOf regs regions areas
areas-of_all regs regions i areas all coalesced targets = record {
  coalesced = coalesced;
  targets = λ x. targets x ∙ ap (λ (it : List Region). granted_target regs x (target_at it x)) (take_all i regions all);
}
