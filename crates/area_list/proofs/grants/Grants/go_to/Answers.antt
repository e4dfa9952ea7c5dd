use Rattle.std.proofs.Common.{◌∙◌}
use Rattle.paging_laws.proofs.ZoneLaws.{reaches-zone}
use Rattle.area_list.proofs.grants.Grants.go_to.Goals as goal

pub returns-then-is_one_zone-clause-reach : goal.returns-then-is_one_zone-clause-reach
returns-then-is_one_zone-clause-reach c = λ access.
    c.requires.grants.reached access
    ∙ reaches-zone c.args.regs.now access c.args.self.now.address c.args.address
    (record {
      below = c.requires.grants.below;
      other_below = c.ranges.address.fits;
      canonical = c.requires.grants.canonical;
      other_canonical = c.requires.canonical;
      half = c.is_one_zone.ensures.half c.if-is_one_zone.true;
      low = c.is_one_zone.ensures.low c.if-is_one_zone.true;
    })
