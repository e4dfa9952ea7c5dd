use Rattle.std.proofs.Common.{refl, inl, inr, arith, subst}
use Rattle.std.proofs.lemmas.List.{drop_all}
use Rattle.version_store.proofs.Earlier.{passed_until}
use Rattle.version_store.proofs.Growing.{IsPassed, spans_grow, spans_grow-before, passed_over, passed_at, goes_old, goes_present}
use Rattle.version_store.proofs.spans.spans_in.Goals as goal
use Rattle.version_store.proofs.spans.spans_in.Goals.{then-change-offset+then-change-first+else-change-now+in_ok-grow-2, else-change-offset, else-change-offset-via-then-change-offset+else-change-first, else-change-offset-via-else-change-offset}

pub loop-number-init : goal.loop-number-init
loop-number-init c = record {
  order = c.requires;
  passed = passed_until _ _ c.args.offset c.args.from c.count_until-number.ensures.early;
  spans = rw c.new-items.ensures.items refl;
}

pub returns-then-change-now : goal.returns-then-change-now
returns-then-change-now c =
    rw (c.from_vec.ensures, c.in_ok-grow.ensures)
    (spans_grow _ _ _ _ _ _ c.loop-number.invariant.spans (goes_old _ _ _ _ _ _ _ (omega arith) c.get-change.ensures.value c.loop-number.invariant.passed c.if-change-offset.true c.loop-number.invariant.order c.if-change-now.true))

pub returns : goal.returns
returns c =
    rw (c.from_vec-2.ensures, c.in_ok-grow-3.ensures)
    (spans_grow _ _ _ _ _ _ c.loop-number.invariant.spans (goes_present _ _ _ _ _ (subst (λ rest. IsPassed c.args.changes.now rest c.args.offset c.loop-number.first) (drop_all c.loop-number.number c.args.changes.now (omega arith)) c.loop-number.invariant.passed) c.loop-number.invariant.order))

pub loop-number-preserved : goal.loop-number-preserved
loop-number-preserved c = elim c.if-change-offset.branch [
  | then-change-offset+then-change-first+else-change-now+in_ok-grow-2 w ↦
      rw (w.first-is, w.items-is, w.in_ok-grow-2.ensures) (record {
        order = w.if-change-now.false;
        passed = passed_at _ _ _ _ _ (omega arith) c.get-change.ensures.value c.loop-number.invariant.passed w.if-change-first.true;
        spans = spans_grow-before _ _ _ _ _ _ w.if-change-first.true c.loop-number.invariant.spans (goes_old _ _ _ _ _ _ _ (omega arith) c.get-change.ensures.value c.loop-number.invariant.passed w.if-change-offset.true (omega arith) (omega arith));
      })
  | else-change-offset w ↦ rw (w.first-is, w.items-is) (record {
    order = c.loop-number.invariant.order;
    passed = elim w.else-change-offset.branch [
      | else-change-offset-via-then-change-offset+else-change-first v ↦ passed_over _ _ _ _ _ (omega arith) c.get-change.ensures.value c.loop-number.invariant.passed (inr v.if-change-first.false)
      | else-change-offset-via-else-change-offset v ↦ passed_over _ _ _ _ _ (omega arith) c.get-change.ensures.value c.loop-number.invariant.passed (inl v.if-change-offset.false)
    ];
    spans = c.loop-number.invariant.spans;
  })
]
