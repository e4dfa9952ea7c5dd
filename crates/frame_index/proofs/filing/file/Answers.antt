use Rattle.std.proofs.Common.{ℕ, None, Some, subst}
use Rattle.frame_index.specs.Records.{PutsSlot, place_cmp, place_of}
use Rattle.frame_index.proofs.Leading.{put_back}
use Rattle.frame_index.proofs.Orders.{place_exact, place_total}
use Rattle.frame_index.proofs.filing.file.Goals as goal

pub returns-then-is_err-clause-err_place : goal.returns-then-is_err-clause-err_place
returns-then-is_err-clause-err_place c =
    put_back place_cmp place_total place_exact c.args.places.now c.insert.new.self c.remove.new.self
    (place_of c.args.one.now) (Some c.args.slot) c.requires.free
    (subst (λ (key : ℕ × ℕ). PutsSlot place_cmp c.args.places.now c.insert.new.self key (Some c.args.slot))
    c.place_of.ensures c.in_ok-insert.ensures.updates.0)
    (subst (λ (key : ℕ × ℕ). PutsSlot place_cmp c.insert.new.self c.remove.new.self key None)
    c.place_of-then-is_err.ensures c.remove.ensures.updates.0)
