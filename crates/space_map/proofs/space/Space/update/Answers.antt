use Rattle.std.proofs.Common.{ℕ, ◌≡◌, ◌-◌, List, refl, sym, ap, ◌∙◌, subst, arith, length}
use Rattle.std.proofs.lemmas.Result.{err_from_is_err_and}
use Rattle.paging_model.specs.Counting.{IsIn}
use Rattle.frame_index.specs.declared.counted_use.CountedUse.{CountedUse}
use Rattle.phys_view.specs.Seen.{memory_of}
use Rattle.std.specs.Prelude.{sum}
use Rattle.std.proofs.lemmas.List.{length-map}
use Rattle.frame_index.specs.CountedUses.{pages_counted}
use Rattle.kept_laws.specs.Patches.{uses_in_patches}
use Rattle.space_map.specs.PatchWalks.{AreFresh, AreLeft, patches_start}
use Rattle.space_map.specs.WalkedIndexes.{IsJoined}
use Rattle.space_map.proofs.LeftIndexes.{all-tables, left-fresh, few-left, few-pages}
use Rattle.space_map.proofs.PatchPasses.{first-shape, start-first}
use Rattle.space_map.proofs.ServingTables.{serving-uses}
use Rattle.space_map.proofs.TrueAfter.{patches-within, first-before-last, shapes, last-shape, last-ends, few-patches, small-numbers, was, now, between-framed, between-numbered, counted-after, changes, regions-after, within-after, too-large-after}
use Rattle.space_map.proofs.space.Space.update.Goals as goal

pub pages_before-requires : goal.pages_before-requires
pages_before-requires g c = record { shapes = (shapes c.requires.was_true.written c.requires.was_true.old c.args.self.now.key.settings c.args.self.now.key.root c.args.patches.now c.args.self.now.aligned c.args.self.now.below c.requires.was_true.are) }

pub remove_beneath-requires : goal.remove_beneath-requires
remove_beneath-requires g c = record {
  shapes = shapes c.requires.was_true.written c.requires.was_true.old c.args.self.now.key.settings c.args.self.now.key.root c.args.patches.now c.args.self.now.aligned c.args.self.now.below c.requires.was_true.are;
  levels = λ one is.
      (c.args.self.now.serving one (subst (λ (it : List CountedUse). IsIn one it) c.replace-index.ensures.value is)).0;
}

pub rest-space-requires-clause-few_uses : goal.rest-space-requires-clause-few_uses
rest-space-requires-clause-few_uses g c =
    let are_left : AreLeft c.args.patches.now c.args.self.now.index c.remove_beneath.new.index =
    subst (λ (it : List CountedUse). AreLeft c.args.patches.now it c.remove_beneath.new.index) c.replace-index.ensures.value c.remove_beneath.ensures in
    few-left c.requires.was_true.written c.requires.was_true.old c.args.self.now.key c.args.patches.now c.requires.was_true.are c.args.self.now.index c.remove_beneath.new.index
    c.requires.was_true.is_true.index are_left c.requires.was_true.own c.form.ensures.places c.requires.was_true.is_true.within

pub rest-space-requires-clause-few_leaves : goal.rest-space-requires-clause-few_leaves
rest-space-requires-clause-few_leaves g c =
    let are_left : AreLeft c.args.patches.now c.args.self.now.index c.remove_beneath.new.index =
    subst (λ (it : List CountedUse). AreLeft c.args.patches.now it c.remove_beneath.new.index) c.replace-index.ensures.value c.remove_beneath.ensures in
    let few = few-pages c.requires.was_true.written c.requires.was_true.old c.args.self.now.key c.args.patches.now c.requires.was_true.are c.args.self.now.index c.remove_beneath.new.index
    c.requires.was_true.is_true.index are_left c.requires.was_true.own c.form.ensures.places c.requires.was_true.is_true.within in
    omega (arith, few, c.without-leaves.ensures, c.pages.ensures)

pub rest-space-requires-clause-within : goal.rest-space-requires-clause-within
rest-space-requires-clause-within g c =
    let are_left : AreLeft c.args.patches.now c.args.self.now.index c.remove_beneath.new.index =
    subst (λ (it : List CountedUse). AreLeft c.args.patches.now it c.remove_beneath.new.index) c.replace-index.ensures.value c.remove_beneath.ensures in
    let few = few-pages c.requires.was_true.written c.requires.was_true.old c.args.self.now.key c.args.patches.now c.requires.was_true.are c.args.self.now.index c.remove_beneath.new.index
    c.requires.was_true.is_true.index are_left c.requires.was_true.own c.form.ensures.places c.requires.was_true.is_true.within in
    omega (arith, few)

pub walk_patches-requires-clause-shapes : goal.walk_patches-requires-clause-shapes
walk_patches-requires-clause-shapes g c = (shapes c.requires.was_true.written c.requires.was_true.old c.args.self.now.key.settings c.args.self.now.key.root c.args.patches.now c.args.self.now.aligned c.args.self.now.below c.requires.was_true.are)

pub walk_patches-requires-clause-fresh : goal.walk_patches-requires-clause-fresh
walk_patches-requires-clause-fresh g c =
    let are_left : AreLeft c.args.patches.now c.args.self.now.index c.remove_beneath.new.index =
    subst (λ (it : List CountedUse). AreLeft c.args.patches.now it c.remove_beneath.new.index) c.replace-index.ensures.value c.remove_beneath.ensures in
    subst (λ (it : List CountedUse). AreFresh c.args.patches.now it) (sym c.rest-space.ensures.index)
    (left-fresh c.requires.was_true.written c.requires.was_true.old c.args.self.now.key c.args.patches.now c.requires.was_true.are c.args.self.now.index c.remove_beneath.new.index
    c.requires.was_true.is_true.index are_left)

pub returns-in_err-after-clause-too_large : goal.returns-in_err-after-clause-too_large
returns-in_err-after-clause-too_large g c =
    let are_left : AreLeft c.args.patches.now c.args.self.now.index c.remove_beneath.new.index =
    subst (λ (it : List CountedUse). AreLeft c.args.patches.now it c.remove_beneath.new.index) c.replace-index.ensures.value c.remove_beneath.ensures in
    let before = c.in-Ok.ensures c.requires.was_true.written c.requires.was_true.old c.args.self.now.key.settings c.args.self.now.key.root c.requires.was_true.are c.requires.was_true.is_true.regions.pages
    (all-tables c.requires.was_true.old c.args.self.now.key c.args.self.now.index c.requires.was_true.is_true.index) in
    let outside : c.rest-space.result.leaves ≡ pages_counted c.remove_beneath.new.index - sum c.in-Ok.before.items =
    c.rest-space.ensures.leaves
    ∙ (c.without-leaves.ensures
    ∙ (ap (λ (n : ℕ). n - sum c.deref.result.now) c.pages.ensures
    ∙ ap (λ (it : List ℕ). pages_counted c.remove_beneath.new.index - sum it) c.deref.ensures.value)) in
    let failed = err_from_is_err_and c.from_residual.result c.from_residual.ensures.1 in
    rw (failed.1, failed.2) (λ too_large.
    too-large-after c.requires.was_true.written c.requires.was_true.old (memory_of c.args.view.now) c.args.self.now.key c.args.patches.now c.requires.was_true.alike
    c.requires.was_true.are c.requires.was_true.own c.args.self.now.index c.remove_beneath.new.index
    c.requires.was_true.is_true.index are_left c.form.ensures.places
    c.rest-space.result.leaves c.in-Ok.before.items before outside c.requires.was_true.is_true.within
    c.rest-space.result (c.rest-space.ensures.uses) refl (c.in_err-after.ensures.exceeds too_large))

pub patch_first-first-requires : goal.patch_first-first-requires
patch_first-first-requires g c = record { shape = first-shape c.args.patches.now _ c.requires.some (shapes c.requires.was_true.written c.requires.was_true.old c.args.self.now.key.settings c.args.self.now.key.root c.args.patches.now c.args.self.now.aligned c.args.self.now.below c.requires.was_true.are) }

pub patch_last-last-requires : goal.patch_last-last-requires
patch_last-last-requires g c = record { shape = last-shape c.args.patches.now _ c.requires.some (shapes c.requires.was_true.written c.requires.was_true.old c.args.self.now.key.settings c.args.self.now.key.root c.args.patches.now c.args.self.now.aligned c.args.self.now.below c.requires.was_true.are) }

pub replace-requires : goal.replace-requires
replace-requires g c =
    record {
      pages = record {
        begins = c.patch_first-first.ensures.whole;
        ends = c.patch_last-last.ensures.whole;
        order =
            let shaped = (shapes c.requires.was_true.written c.requires.was_true.old c.args.self.now.key.settings c.args.self.now.key.root c.args.patches.now c.args.self.now.aligned c.args.self.now.below c.requires.was_true.are) in
            let within = patches-within c.args.patches.now shaped c.requires.was_true.are.ascending in
            first-before-last c.args.patches.now shaped c.requires.was_true.are.ascending c.requires.some
            c.patch_first-first.result c.patch_last-last.result
            (c.patch_first-first.ensures.value ∙ start-first c.args.patches.now _ c.requires.some)
            (c.patch_last-last.ensures.value ∙ last-ends (patches_start c.args.patches.now) c.args.patches.now _ c.requires.some);
      };
    }

pub recount-requires-clause-few : goal.recount-requires-clause-few
recount-requires-clause-few g c =
    few-patches c.args.patches.now (shapes c.requires.was_true.written c.requires.was_true.old c.args.self.now.key.settings c.args.self.now.key.root c.args.patches.now c.args.self.now.aligned c.args.self.now.below c.requires.was_true.are) c.requires.was_true.are.ascending c.requires.some

pub recount-requires-clause-before : goal.recount-requires-clause-before
recount-requires-clause-before g c =
    let before = c.in-Ok.ensures c.requires.was_true.written c.requires.was_true.old c.args.self.now.key.settings c.args.self.now.key.root c.requires.was_true.are c.requires.was_true.is_true.regions.pages
    (all-tables c.requires.was_true.old c.args.self.now.key c.args.self.now.index c.requires.was_true.is_true.index) in
    ap length c.deref-2.ensures.value ∙ (ap length before ∙ length-map c.args.patches.now _)

pub recount-requires-clause-small : goal.recount-requires-clause-small
recount-requires-clause-small g c =
    small-numbers (memory_of c.args.view.now) c.args.self.now.key.settings c.args.patches.now (shapes c.requires.was_true.written c.requires.was_true.old c.args.self.now.key.settings c.args.self.now.key.root c.args.patches.now c.args.self.now.aligned c.args.self.now.below c.requires.was_true.are) c.deref-3.result.now
    (c.deref-3.ensures.value ∙ c.in_ok-after.ensures.walked.pages_are)

pub invariant_of-self-2 : goal.invariant_of-self-2
invariant_of-self-2 g c =
    let are_left : AreLeft c.args.patches.now c.args.self.now.index c.remove_beneath.new.index =
    subst (λ (it : List CountedUse). AreLeft c.args.patches.now it c.remove_beneath.new.index) c.replace-index.ensures.value c.remove_beneath.ensures in
    let before = c.in-Ok.ensures c.requires.was_true.written c.requires.was_true.old c.args.self.now.key.settings c.args.self.now.key.root c.requires.was_true.are c.requires.was_true.is_true.regions.pages
    (all-tables c.requires.was_true.old c.args.self.now.key c.args.self.now.index c.requires.was_true.is_true.index) in
    let walked = c.in_ok-after.ensures.walked in
    let joined = subst (λ (it : List CountedUse). IsJoined (memory_of c.args.view.now) c.args.self.now.key.settings (uses_in_patches (memory_of c.args.view.now) c.args.self.now.key.settings c.args.patches.now) it c.walk_patches.new.space.index)
    c.rest-space.ensures.index walked.joined in
    let numbered = c.recount.ensures.numbered (was c.requires.was_true.written c.requires.was_true.old (memory_of c.args.view.now) c.args.self.now.key c.args.patches.now c.requires.was_true.alike
    c.requires.was_true.are c.requires.was_true.own c.args.self.now.index c.remove_beneath.new.index
    c.requires.was_true.is_true.index are_left c.form.ensures.places) (now c.requires.was_true.written c.requires.was_true.old (memory_of c.args.view.now) c.args.self.now.key c.args.patches.now c.requires.was_true.alike
    c.requires.was_true.are c.requires.was_true.own c.args.self.now.index c.remove_beneath.new.index
    c.requires.was_true.is_true.index are_left c.form.ensures.places) c.requires.was_true.own
    (between-framed c.requires.was_true.written c.requires.was_true.old (memory_of c.args.view.now) c.args.self.now.key c.args.patches.now c.requires.was_true.alike
    c.requires.was_true.are c.requires.was_true.own c.args.self.now.index c.remove_beneath.new.index
    c.requires.was_true.is_true.index are_left c.form.ensures.places
    c.walk_patches.new.space.index joined)
    (changes c.requires.was_true.written c.requires.was_true.old (memory_of c.args.view.now) c.args.self.now.key c.args.patches.now c.requires.was_true.alike
    c.requires.was_true.are c.requires.was_true.own c.args.self.now.index c.remove_beneath.new.index
    c.requires.was_true.is_true.index are_left c.form.ensures.places c.deref-2.result.now c.deref-3.result.now
    (c.deref-2.ensures.value ∙ before) (c.deref-3.ensures.value ∙ walked.pages_are))
    (between-numbered c.requires.was_true.written c.requires.was_true.old (memory_of c.args.view.now) c.args.self.now.key c.args.patches.now c.requires.was_true.alike
    c.requires.was_true.are c.requires.was_true.own c.args.self.now.index c.remove_beneath.new.index
    c.requires.was_true.is_true.index are_left c.form.ensures.places
    c.walk_patches.new.space.index joined) in
    let counted = counted-after c.requires.was_true.written c.requires.was_true.old (memory_of c.args.view.now) c.args.self.now.key c.args.patches.now c.requires.was_true.alike
    c.requires.was_true.are c.requires.was_true.own c.args.self.now.index c.remove_beneath.new.index
    c.requires.was_true.is_true.index are_left c.form.ensures.places
    c.walk_patches.new.space.index joined c.recount.new.index c.recount.ensures.tables numbered c.form-2.ensures.distinct in
    record {
      aligned = c.args.self.now.aligned;
      below = c.args.self.now.below;
      serving = serving-uses (memory_of c.args.view.now) c.args.self.now.key c.recount.new.index counted;
    }

pub returns-clause-ok : goal.returns-clause-ok
returns-clause-ok g c =
    let are_left : AreLeft c.args.patches.now c.args.self.now.index c.remove_beneath.new.index =
    subst (λ (it : List CountedUse). AreLeft c.args.patches.now it c.remove_beneath.new.index) c.replace-index.ensures.value c.remove_beneath.ensures in
    let before = c.in-Ok.ensures c.requires.was_true.written c.requires.was_true.old c.args.self.now.key.settings c.args.self.now.key.root c.requires.was_true.are c.requires.was_true.is_true.regions.pages
    (all-tables c.requires.was_true.old c.args.self.now.key c.args.self.now.index c.requires.was_true.is_true.index) in
    let outside : c.rest-space.result.leaves ≡ pages_counted c.remove_beneath.new.index - sum c.in-Ok.before.items =
    c.rest-space.ensures.leaves
    ∙ (c.without-leaves.ensures
    ∙ (ap (λ (n : ℕ). n - sum c.deref.result.now) c.pages.ensures
    ∙ ap (λ (it : List ℕ). pages_counted c.remove_beneath.new.index - sum it) c.deref.ensures.value)) in
    let walked = c.in_ok-after.ensures.walked in
    let joined = subst (λ (it : List CountedUse). IsJoined (memory_of c.args.view.now) c.args.self.now.key.settings (uses_in_patches (memory_of c.args.view.now) c.args.self.now.key.settings c.args.patches.now) it c.walk_patches.new.space.index)
    c.rest-space.ensures.index walked.joined in
    let numbered = c.recount.ensures.numbered (was c.requires.was_true.written c.requires.was_true.old (memory_of c.args.view.now) c.args.self.now.key c.args.patches.now c.requires.was_true.alike
    c.requires.was_true.are c.requires.was_true.own c.args.self.now.index c.remove_beneath.new.index
    c.requires.was_true.is_true.index are_left c.form.ensures.places) (now c.requires.was_true.written c.requires.was_true.old (memory_of c.args.view.now) c.args.self.now.key c.args.patches.now c.requires.was_true.alike
    c.requires.was_true.are c.requires.was_true.own c.args.self.now.index c.remove_beneath.new.index
    c.requires.was_true.is_true.index are_left c.form.ensures.places) c.requires.was_true.own
    (between-framed c.requires.was_true.written c.requires.was_true.old (memory_of c.args.view.now) c.args.self.now.key c.args.patches.now c.requires.was_true.alike
    c.requires.was_true.are c.requires.was_true.own c.args.self.now.index c.remove_beneath.new.index
    c.requires.was_true.is_true.index are_left c.form.ensures.places
    c.walk_patches.new.space.index joined)
    (changes c.requires.was_true.written c.requires.was_true.old (memory_of c.args.view.now) c.args.self.now.key c.args.patches.now c.requires.was_true.alike
    c.requires.was_true.are c.requires.was_true.own c.args.self.now.index c.remove_beneath.new.index
    c.requires.was_true.is_true.index are_left c.form.ensures.places c.deref-2.result.now c.deref-3.result.now
    (c.deref-2.ensures.value ∙ before) (c.deref-3.ensures.value ∙ walked.pages_are))
    (between-numbered c.requires.was_true.written c.requires.was_true.old (memory_of c.args.view.now) c.args.self.now.key c.args.patches.now c.requires.was_true.alike
    c.requires.was_true.are c.requires.was_true.own c.args.self.now.index c.remove_beneath.new.index
    c.requires.was_true.is_true.index are_left c.form.ensures.places
    c.walk_patches.new.space.index joined) in
    let counted = counted-after c.requires.was_true.written c.requires.was_true.old (memory_of c.args.view.now) c.args.self.now.key c.args.patches.now c.requires.was_true.alike
    c.requires.was_true.are c.requires.was_true.own c.args.self.now.index c.remove_beneath.new.index
    c.requires.was_true.is_true.index are_left c.form.ensures.places
    c.walk_patches.new.space.index joined c.recount.new.index c.recount.ensures.tables numbered c.form-2.ensures.distinct in
    record {
      index = counted;
      regions =
          regions-after c.requires.was_true.written c.requires.was_true.old (memory_of c.args.view.now) c.args.self.now.key c.args.patches.now c.requires.was_true.alike
          c.requires.was_true.are c.requires.was_true.own c.args.self.now.index c.remove_beneath.new.index
          c.requires.was_true.is_true.index are_left c.form.ensures.places
          c.args.self.now.regions c.walk_patches.new.space.regions c.replace.new.self c.rest-space.result c.walk_patches.new.space c.in_ok-after.after.items
          c.requires.some (shapes c.requires.was_true.written c.requires.was_true.old c.args.self.now.key.settings c.args.self.now.key.root c.args.patches.now c.args.self.now.aligned c.args.self.now.below c.requires.was_true.are) walked c.patch_first-first.result c.patch_last-last.result
          (c.patch_first-first.ensures.value ∙ start-first c.args.patches.now _ c.requires.some)
          (c.patch_last-last.ensures.value ∙ last-ends (patches_start c.args.patches.now) c.args.patches.now _ c.requires.some)
          c.in-Ok-replace.ensures.ok c.requires.was_true.is_true.regions c.list-coalesced.ensures.coalesced;
      within =
          within-after c.requires.was_true.written c.requires.was_true.old (memory_of c.args.view.now) c.args.self.now.key c.args.patches.now c.requires.was_true.alike
          c.requires.was_true.are c.requires.was_true.own c.args.self.now.index c.remove_beneath.new.index
          c.requires.was_true.is_true.index are_left c.form.ensures.places
          c.rest-space.result.leaves c.in-Ok.before.items before outside c.requires.was_true.is_true.within
          c.walk_patches.new.space.uses c.walk_patches.new.space.leaves
          (omega (arith, walked.uses, c.rest-space.ensures.uses)) c.walk_patches.new.space.few_uses
          walked.leaves c.walk_patches.new.space.few_leaves;
    }
