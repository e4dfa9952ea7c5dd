use Rattle.std.proofs.Common.{◌≡◌, ℕ, ◌-◌, ap, ◌∙◌, arith}
use Rattle.version_store.proofs.Growing.{set-here, push-here, push-first, same-place}
use Rattle.version_store.proofs.spans.grow.Goals as goal
use Rattle.version_store.proofs.spans.grow.Goals.{else-len-gt0-via-then-len-gt0+else-index-value, else-len-gt0-via-else-len-gt0}

pub returns-then-index-value : goal.returns-then-index-value
returns-then-index-value c =
    let same : c.index_mut.result.now ≡ c.index.result.now = same-place c.args.items.now.items (c.len-len.result - 1) c.index_mut.result.now c.index.result.now (omega arith) c.index_mut.ensures.value c.index.ensures in
    set-here c.args.items.now.items c.len-len.result c.args.first c.args.last c.args.value c.index_mut.result.now c.if-len-gt0.true (omega arith) c.index_mut.ensures.value
    (ap (λ (one : ℕ × ℕ × ℕ). one.2) same ∙ c.if-index-value.true)

pub returns : goal.returns
returns c = rw c.in_ok-push.ensures.items
    (elim c.else-len-gt0.branch [
      | else-len-gt0-via-then-len-gt0+else-index-value w ↦ push-here c.args.items.now.items c.len-len.result c.args.first c.args.last c.args.value w.index.result.now (omega arith) w.index.ensures w.if-index-value.false
      | else-len-gt0-via-else-len-gt0 w ↦ push-first _ _ _ _ (omega arith)
    ])
