use Rattle.std.proofs.Common.{◌+◌, ap, ◌∙◌, sym, Some}
use Rattle.std.proofs.lemmas.Map.Steps.{set_value_same}
use Rattle.std.proofs.lemmas.Result.{on_ok_weaker, on_err_weaker, IfOk-weaker}
use Rattle.version_store.specs.Changes.{kept_blocks}
use Rattle.version_store.proofs.Frames.{noted_in, kept_blocks-set, counts-set}
use Rattle.version_store.proofs.store.note_in.Goals as goal

pub returns-in-Some-clause-ok : goal.returns-in-Some-clause-ok
returns-in-Some-clause-ok c =
    on_ok_weaker c.push.result
    (λ is. (c.get_mut.follows.holds c.push.new.self).0 ∙ noted_in _ _ _ _ _ c.get_mut.ensures.ordered (sym c.in-Some.ensures.value) is) c.push.ensures.ok

pub returns-in-Some-clause-err : goal.returns-in-Some-clause-err
returns-in-Some-clause-err c =
    on_err_weaker c.push.result
    (λ is. (c.get_mut.follows.holds c.push.new.self).0 ∙ set_value_same _ _ _ (sym c.in-Some.ensures.value ∙ ap Some (sym is))) c.push.ensures.err

pub returns-in-Some-clause-blocks : goal.returns-in-Some-clause-blocks
returns-in-Some-clause-blocks c =
    IfOk-weaker c.push.result _ _
    (λ is_new is. ap kept_blocks (c.get_mut.follows.holds c.push.new.self).0 ∙ kept_blocks-set c.args.frames.now.entries c.args.frame _ _ _ (sym c.in-Some.ensures.value) is) c.push.ensures.blocks

pub returns-in-Some-clause-counts : goal.returns-in-Some-clause-counts
returns-in-Some-clause-counts c =
    counts-set c.args.frames.now.entries c.args.frame c.args.pool.now.live c.push.new.pool.live _ _ (sym c.in-Some.ensures.value) c.push.ensures.counts
    ∙ ap (λ n. c.args.pool.now.live + n) (ap kept_blocks (sym (c.get_mut.follows.holds c.push.new.self).0))
