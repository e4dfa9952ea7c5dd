use Rattle.std.proofs.Common.{arith}
use Rattle.kept_spaces.proofs.Listed.{put-in-front}
use Rattle.kept_spaces.proofs.kept.move_first.Goals as goal

-- Insertion doesn't fail, since a place is free then.
pub returns : goal.returns
returns c = λ d.
    let ok = c.insert.ensures.succeeds (omega (arith, c.args.spaces.now.ok.1, c.remove-space.ensures.len, c.remove-space.ensures.capacity)) in
    put-in-front c.insert.result c.args.spaces.now.items _ _ c.args.index d c.remove-space.result c.requires
    c.remove-space.ensures.value c.remove-space.ensures.items ok c.insert.ensures.items
