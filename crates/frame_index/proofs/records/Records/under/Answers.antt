use Rattle.std.proofs.Common.{◌≡◌, ◌+◌, ◌-◌, ℕ, List, sym, subst, arith}
use Rattle.paging_model.specs.declared.spaces.TableUse.{TableUse}
use Rattle.frame_index.proofs.Tables.{FoundDown, found_down_more, those_under}
use Rattle.frame_index.proofs.records.Records.under.Goals as goal
use Rattle.frame_index.proofs.records.Records.under.Goals.{then-loop-next-test+else-first-last, else-loop-next-test}

pub loop-next-preserved : goal.loop-next-preserved
loop-next-preserved c =
    let more : c.loop-next.next ≡ c.loop-next.next - 1 + 1 = omega arith in
    record {
      within = omega arith;
      found = subst (λ (tables : List TableUse). FoundDown c.args.self.now.slab.slots c.args.first c.args.last c.args.level (c.loop-next.next - 1) tables)
          (sym c.in_ok-push_level.ensures.tables)
          (found_down_more _ _ _ _ c.requires c.push_level.ensures.ordered c.args.first c.args.last c.args.level (c.loop-next.next - 1) c.loop-next.tables.items
          (omega arith)
          (subst (λ (lower : ℕ). FoundDown c.args.self.now.slab.slots c.args.first c.args.last c.args.level lower c.loop-next.tables.items) more c.loop-next.invariant.found));
    }

pub returns : goal.returns
returns c = those_under _ _ _ _ c.requires c.args.first c.args.last c.args.level c.loop-next.next c.loop-next.tables.items c.loop-next.invariant.found
    (λ one under.
    let from = under.from in
    let to = under.to in
    elim c.loop-next-test.branch [
      | then-loop-next-test+else-first-last w ↦ let apart = w.if-first-last in omega (arith, from, to, apart)
      | else-loop-next-test w ↦ omega arith
    ])
