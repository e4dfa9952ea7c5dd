use Rattle.std.proofs.Common.{◌≡◌, ◌+◌, ◌≤◌, true, sym, ap, ◌∙◌, arith}
use Rattle.std.proofs.lemmas.Bool.Decides.{nat_tests}
use Rattle.std.proofs.lemmas.Grind.{common_steps}
use Rattle.std.specs.Prelude.{max}
use Rattle.version_store.specs.Changes.{last_time}
use Rattle.version_store.specs.Records.{changes_in, IsFilledTo}
use Rattle.version_store.proofs.Earlier.{order-pushed}
use Rattle.version_store.proofs.LastTimes.{last_time-push, offsets-pushed}
use Rattle.version_store.proofs.Packing.{changes_in-push, blocks-pushed, blocks-counted, kept-changes}
use Rattle.version_store.proofs.frame_changes.FrameChanges.push.Goals as goal
use Rattle.version_store.proofs.frame_changes.FrameChanges.push.Goals.{then-self, else-self}

pub returns-clause-ok : goal.returns-clause-ok
returns-clause-ok c =
    let len : c.in-Some.len ≡ c.self.inside.len + 1 = grind (arith, common_steps) in
    rw (sym c.self.view_is)
    (ap (changes_in c.put_change.new.blocks.items) len
    ∙ changes_in-push c.self.inside.blocks.items c.make_room.new.blocks.items c.put_change.new.blocks.items c.self.inside.len c.args.change c.self.invariant.filled (λ k below. c.in_ok-is_new.ensures.same k (omega arith)) c.put_change.ensures.value c.put_change.ensures.others)

pub returns-clause-blocks : goal.returns-clause-blocks
returns-clause-blocks c =
    let len : c.in-Some.len ≡ c.self.inside.len + 1 = grind (arith, common_steps) in
    let filled : IsFilledTo c.put_change.new.blocks.items c.in-Some.len =
    let room = c.in_ok-is_new.ensures.ok.room in
    let full = c.in_ok-is_new.ensures.ok.full in
    record { room = omega (arith, len); full = omega (arith, len) } in
    rw (sym c.self.view_is)
    (blocks-pushed c.self.inside.blocks.items c.put_change.new.blocks.items c.self.inside.len c.in-Some.len _ c.self.invariant.filled filled (let more = c.in_ok-is_new.ensures.more in omega (arith, more)))

pub returns-clause-counts : goal.returns-clause-counts
returns-clause-counts c =
    let len : c.in-Some.len ≡ c.self.inside.len + 1 = grind (arith, common_steps) in
    let filled : IsFilledTo c.put_change.new.blocks.items c.in-Some.len =
    let room = c.in_ok-is_new.ensures.ok.room in
    let full = c.in_ok-is_new.ensures.ok.full in
    record { room = omega (arith, len); full = omega (arith, len) } in
    rw (sym c.self.view_is)
    (blocks-counted c.self.inside.blocks.items c.put_change.new.blocks.items c.self.inside.len c.in-Some.len _ _ c.self.invariant.filled filled (let counts = c.make_room.ensures.counts in omega (arith, counts)))

pub invariant_of-self-2 : goal.invariant_of-self-2
invariant_of-self-2 c =
    let len : c.in-Some.len ≡ c.self.inside.len + 1 = grind (arith, common_steps) in
    let filled : IsFilledTo c.put_change.new.blocks.items c.in-Some.len =
    let room = c.in_ok-is_new.ensures.ok.room in
    let full = c.in_ok-is_new.ensures.ok.full in
    record { room = omega (arith, len); full = omega (arith, len) } in
    let were : c.if-self.self ≡ true → (c.self.inside.are_in_order ≡ true) × (c.self.inside.last ≤ c.args.change.time) = λ are. elim c.if-self.branch [
      | then-self w ↦ (w.if-self.true, grind (arith, nat_tests, are, w.self-is))
      | else-self w ↦ absurd (cc)
    ] in
    record {
      filled = filled;
      slots = λ i below. offsets-pushed c.self.inside.blocks.items c.make_room.new.blocks.items c.put_change.new.blocks.items c.self.inside.len c.args.change c.self.invariant.filled
          (λ k within. c.in_ok-is_new.ensures.same k (omega arith)) c.put_change.ensures.value c.put_change.ensures.others c.requires c.self.invariant.slots i (omega (arith, len, below));
      last_is = c.max-self-inside.ensures ∙ (ap (λ n. max n c.args.change.time) c.self.invariant.last_is
          ∙ (sym (last_time-push (changes_in c.self.inside.blocks.items c.self.inside.len) c.args.change)
          ∙ sym (ap last_time (ap (changes_in c.put_change.new.blocks.items) len
          ∙ changes_in-push c.self.inside.blocks.items c.make_room.new.blocks.items c.put_change.new.blocks.items c.self.inside.len c.args.change c.self.invariant.filled (λ k below. c.in_ok-is_new.ensures.same k (omega arith)) c.put_change.ensures.value c.put_change.ensures.others))));
      order = λ are. order-pushed c.self.inside.blocks.items c.put_change.new.blocks.items c.self.inside.len c.in-Some.len c.self.inside.last c.args.change len
          (kept-changes c.self.inside.blocks.items c.make_room.new.blocks.items c.put_change.new.blocks.items c.self.inside.len c.self.invariant.filled (λ k within. c.in_ok-is_new.ensures.same k (omega arith)) c.put_change.ensures.others)
          c.put_change.ensures.value c.self.invariant.last_is (were are).1 (c.self.invariant.order (were are).0);
    }
