use Rattle.std.proofs.Common.{refl}
use Rattle.space_map.proofs.PatchOrders.{planned-sorted}
use Rattle.space_map.proofs.space.Space.before_write.Goals as goal

pub returns : goal.returns
returns c = record {
  frame_is = refl;
  first_is = refl;
  last_is = refl;
  planned = planned-sorted c.args.self.now.key.settings c.args.first_slot c.args.last_slot c.args.frame c.args.self.now.index
      c.in_ok-patches.patches.items c.sort_patches.new.patches.items c.requires.order c.requires.few c.args.self.now.serving
      c.in_ok-patches.ensures c.sort_patches.ensures.permutation c.sort_patches.ensures.sorted;
}
