use Rattle.std.proofs.Common.{rules, ap, ◌≡◌, ◌∙◌}
use Rattle.std.specs.Prelude.{option_map}
use Rattle.paging_model.specs.Listings.{stretch_of_region}
use Rattle.paging_model.specs.declared.spaces.Region.{Region}
use Rattle.region_map.specs.Coalesced.{region_at, range_target}
use Rattle.region_map.proofs.Indices.{target-of_region}
use Rattle.region_map.proofs.regions.Regions.find.Goals as goal

pub returns-clause-target : goal.returns-clause-target
returns-clause-target c =
    let same : c.region_of.result ≡ region_at c.args.self.now c.args.address = search rules in
    ap (option_map (λ (region : Region). range_target (stretch_of_region region) c.args.address)) same ∙ target-of_region c.args.self.now c.args.address
