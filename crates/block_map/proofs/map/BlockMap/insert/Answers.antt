use Rattle.std.proofs.Common.{◌≡◌, ◌+◌, ◌∙◌, sym, ap, arith, is_some, if◌then◌else◌}
use Rattle.std.proofs.lemmas.Grind.{common_steps}
use Rattle.block_map.specs.Rows.{block_at}
use Rattle.block_map.proofs.Pages.{pages-put, length-inserted}
use Rattle.block_map.proofs.map.BlockMap.insert.Goals as goal

pub invariant_of-self-2 : goal.invariant_of-self-2
invariant_of-self-2 c =
    let counted : c.in-Some.len ≡ c.self.inside.len + (if is_some (block_at c.self.inside.rows c.args.number) then 0 else 1) =
    grind (arith, common_steps) in
    counted ∙ ap (λ n. n + (if is_some (block_at c.self.inside.rows c.args.number) then 0 else 1)) c.self.invariant
    ∙ length-inserted _ _ _ c.args.number _ (omega arith) c.in_ok-insert.ensures.ok

pub returns-clause-ok : goal.returns-clause-ok
returns-clause-ok c =
    rw (sym c.self.view_is) (pages-put _ _ _ c.args.number _ (omega arith) c.in_ok-insert.ensures.ok)
