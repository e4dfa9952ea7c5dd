use Rattle.std.proofs.Common.{◌≡◌, ℕ, take}
use Rattle.paging_model.specs.Translations.{granted_target}
use Rattle.region_map.specs.Coalesced.{AreCoalesced, target_at}
use Rattle.area_list.specs.AreaLists.{area_stretches, area_target}
use Rattle.area_list.specs.KeptGrants.{IsGrants}
use Rattle.area_list.proofs.listing.areas_of.Given as goal

-- the areas map what the registers grant of the regions so far
abbrev pub invariant-loop-region : goal.invariant-loop-region
invariant-loop-region l = record {
  coalesced : AreCoalesced (area_stretches l.areas.items);
  grants : IsGrants l.regs l.grants;
  targets : (x : ℕ) → area_target l.areas.items x ≡ granted_target l.regs x (target_at (take l.region-index l.regions) x);
}
