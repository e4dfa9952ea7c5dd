use Rattle.std.proofs.Common.{refl, arith, sym, subst, List}
use Rattle.std.proofs.lemmas.Result.{err_from_is_err_and}
use Rattle.paging_model.specs.Listings.{AreRegions}
use Rattle.paging_model.specs.declared.spaces.Region.{Region}
use Rattle.paging_laws.specs.SpaceParts.{uses_of}
use Rattle.paging_laws.proofs.WholeSpaces.{all-uses}
use Rattle.phys_view.specs.Seen.{memory_of}
use Rattle.region_map.specs.Coalesced.{AreCoalesced, stretches}
use Rattle.space_map.proofs.BuiltSpaces.{at-least-uses, exceeds-lower, exceeds-upper, within-limits, are-regions, halves-apart}
use Rattle.space_map.proofs.BuiltIndexes.{counted-all, fresh-upper, top-free, few-pages, pages-counted, joined-whole}
use Rattle.space_map.proofs.ServingTables.{serving-uses}
use Rattle.space_map.proofs.space.Space.build.Goals as goal

pub walk_slots-requires-2-clause-fresh : goal.walk_slots-requires-2-clause-fresh
walk_slots-requires-2-clause-fresh g c =
    let lower_index = rw c.top_level.ensures.value at c.in_ok-lower_pages.ensures.index in
    let fresh = fresh-upper (memory_of c.args.view.now) c.args.key.settings c.args.key.root c.new-space.result c.walk_slots.new.space
    c.new-space.ensures.index c.in_ok-lower_pages.lower_pages lower_index in
    rw (c.upper_prefix.ensures.value, c.top_level.ensures.value) (fresh _ _ (halves-apart (memory_of c.args.view.now) c.args.key.settings c.args.key.root))

pub overflow_add-lower_pages : goal.overflow_add-lower_pages
overflow_add-lower_pages g c =
    let lower_index = rw c.top_level.ensures.value at c.in_ok-lower_pages.ensures.index in
    let upper_index = rw (c.upper_prefix.ensures.value, c.top_level.ensures.value) at c.in_ok-upper_pages.ensures.index in
    let few = few-pages (memory_of c.args.view.now) c.args.key.settings c.args.key.root c.new-space.result c.walk_slots.new.space
    c.new-space.ensures.index c.in_ok-lower_pages.lower_pages lower_index c.walk_slots-2.new.space c.in_ok-upper_pages.upper_pages upper_index in
    omega (arith, few)

pub index_table-requires-clause-free : goal.index_table-requires-clause-free
index_table-requires-clause-free g c =
    let lower_index = rw c.top_level.ensures.value at c.in_ok-lower_pages.ensures.index in
    let upper_index = rw (c.upper_prefix.ensures.value, c.top_level.ensures.value) at c.in_ok-upper_pages.ensures.index in
    let free = top-free (memory_of c.args.view.now) c.args.key.settings c.args.key.root c.new-space.result c.walk_slots.new.space
    c.new-space.ensures.index c.in_ok-lower_pages.lower_pages lower_index c.walk_slots-2.new.space c.in_ok-upper_pages.upper_pages upper_index in
    rw c.top_level.ensures.value free

pub index_table-requires-clause-counted : goal.index_table-requires-clause-counted
index_table-requires-clause-counted g c =
    let lower_index = rw c.top_level.ensures.value at c.in_ok-lower_pages.ensures.index in
    let upper_index = rw (c.upper_prefix.ensures.value, c.top_level.ensures.value) at c.in_ok-upper_pages.ensures.index in
    let all = pages-counted (memory_of c.args.view.now) c.args.key.settings c.args.key.root c.new-space.result c.walk_slots.new.space
    c.new-space.ensures.index c.in_ok-lower_pages.lower_pages lower_index c.walk_slots-2.new.space c.in_ok-upper_pages.upper_pages upper_index c.new-space.ensures.leaves in
    omega (arith, all)

pub invariant_of-result : goal.invariant_of-result
invariant_of-result g c =
    let lower_index = rw c.top_level.ensures.value at c.in_ok-lower_pages.ensures.index in
    let upper_index = rw (c.upper_prefix.ensures.value, c.top_level.ensures.value) at c.in_ok-upper_pages.ensures.index in
    let added = rw c.top_level.ensures.value at c.in_ok-index_table.ensures.added in
    record {
      aligned = c.requires.aligned;
      below = c.requires.below;
      serving = serving-uses (memory_of c.args.view.now) c.args.key c.index_table.new.self.index
          (counted-all (memory_of c.args.view.now) c.args.key (uses_of (memory_of c.args.view.now) c.args.key.settings c.args.key.root) c.index_table.new.self.index
          (all-uses (memory_of c.args.view.now) c.args.key.settings c.args.key.root)
          (joined-whole (memory_of c.args.view.now) c.args.key.settings c.args.key.root c.new-space.result c.walk_slots.new.space
          c.new-space.ensures.index c.in_ok-lower_pages.lower_pages lower_index c.walk_slots-2.new.space c.in_ok-upper_pages.upper_pages upper_index c.index_table.new.self.index added)
          c.form.ensures.distinct);
    }

pub returns-clause-ok : goal.returns-clause-ok
returns-clause-ok g c =
    let lower = rw c.top_level.ensures.value at c.in_ok-lower_pages.ensures.walk in
    let upper = rw (c.upper_prefix.ensures.value, c.top_level.ensures.value) at c.in_ok-upper_pages.ensures.walk in
    let lower_index = rw c.top_level.ensures.value at c.in_ok-lower_pages.ensures.index in
    let upper_index = rw (c.upper_prefix.ensures.value, c.top_level.ensures.value) at c.in_ok-upper_pages.ensures.index in
    let added = rw c.top_level.ensures.value at c.in_ok-index_table.ensures.added in
    record {
      key_is = refl;
      is_true = record {
        index =
            counted-all (memory_of c.args.view.now) c.args.key (uses_of (memory_of c.args.view.now) c.args.key.settings c.args.key.root) c.index_table.new.self.index
            (all-uses (memory_of c.args.view.now) c.args.key.settings c.args.key.root)
            (joined-whole (memory_of c.args.view.now) c.args.key.settings c.args.key.root c.new-space.result c.walk_slots.new.space
            c.new-space.ensures.index c.in_ok-lower_pages.lower_pages lower_index c.walk_slots-2.new.space c.in_ok-upper_pages.upper_pages upper_index c.index_table.new.self.index added)
            c.form.ensures.distinct;
        regions =
            subst (λ (it : List Region). AreRegions (memory_of c.args.view.now) c.args.key.settings c.args.key.root it) (sym c.index_table.ensures.regions)
            (are-regions (memory_of c.args.view.now) c.args.key.settings c.args.key.root c.new-space.result c.walk_slots.new.space
            c.new-space.ensures.regions c.new-space.ensures.uses c.new-space.ensures.leaves lower c.walk_slots-2.new.space upper
            (subst (λ (it : List Region). AreCoalesced (stretches it)) c.index_table.ensures.regions c.list-coalesced.ensures.coalesced));
        within = within-limits (memory_of c.args.view.now) c.args.key.settings c.args.key.root c.new-space.result c.walk_slots.new.space
            c.new-space.ensures.regions c.new-space.ensures.uses c.new-space.ensures.leaves lower c.walk_slots-2.new.space upper;
      };
    }

pub returns-clause-cost : goal.returns-clause-cost
returns-clause-cost g c =
    let lower = rw c.top_level.ensures.value at c.walk_slots.ensures.few in
    let upper = rw (c.upper_prefix.ensures.value, c.top_level.ensures.value) at c.walk_slots-2.ensures.few in
    record {
      uses = c.walk_slots-2.new.space.uses;
      are_uses = at-least-uses (memory_of c.args.view.now) c.args.key.settings c.args.key.root c.walk_slots-2.new.space.uses
          (omega (arith, lower, upper, c.new-space.ensures.uses));
      few = c.walk_slots-2.new.space.few_uses;
      bound = omega (arith, c.walk_slots.ensures.cost, c.walk_slots-2.ensures.cost, c.new-space.ensures.uses);
    }

pub returns-in_err-lower_pages-clause-cost : goal.returns-in_err-lower_pages-clause-cost
returns-in_err-lower_pages-clause-cost g c =
    let lower = rw c.top_level.ensures.value at c.walk_slots.ensures.few in
    record {
      uses = c.walk_slots.new.space.uses;
      are_uses = at-least-uses (memory_of c.args.view.now) c.args.key.settings c.args.key.root c.walk_slots.new.space.uses
          (omega (arith, lower, c.new-space.ensures.uses));
      few = c.walk_slots.new.space.few_uses;
      bound = omega (arith, c.walk_slots.ensures.cost, c.new-space.ensures.uses);
    }

pub returns-in_err-upper_pages-clause-cost : goal.returns-in_err-upper_pages-clause-cost
returns-in_err-upper_pages-clause-cost g c =
    let lower = rw c.top_level.ensures.value at c.walk_slots.ensures.few in
    let upper = rw (c.upper_prefix.ensures.value, c.top_level.ensures.value) at c.walk_slots-2.ensures.few in
    record {
      uses = c.walk_slots-2.new.space.uses;
      are_uses = at-least-uses (memory_of c.args.view.now) c.args.key.settings c.args.key.root c.walk_slots-2.new.space.uses
          (omega (arith, lower, upper, c.new-space.ensures.uses));
      few = c.walk_slots-2.new.space.few_uses;
      bound = omega (arith, c.walk_slots.ensures.cost, c.walk_slots-2.ensures.cost, c.new-space.ensures.uses);
    }

pub returns-in_err-index_table-clause-cost : goal.returns-in_err-index_table-clause-cost
returns-in_err-index_table-clause-cost g c =
    let lower = rw c.top_level.ensures.value at c.walk_slots.ensures.few in
    let upper = rw (c.upper_prefix.ensures.value, c.top_level.ensures.value) at c.walk_slots-2.ensures.few in
    record {
      uses = c.walk_slots-2.new.space.uses;
      are_uses = at-least-uses (memory_of c.args.view.now) c.args.key.settings c.args.key.root c.walk_slots-2.new.space.uses
          (omega (arith, lower, upper, c.new-space.ensures.uses));
      few = c.walk_slots-2.new.space.few_uses;
      bound = omega (arith, c.walk_slots.ensures.cost, c.walk_slots-2.ensures.cost, c.new-space.ensures.uses);
    }

pub returns-in_err-lower_pages-clause-too_large : goal.returns-in_err-lower_pages-clause-too_large
returns-in_err-lower_pages-clause-too_large g c =
    let failed = err_from_is_err_and c.from_residual.result c.from_residual.ensures.1 in
    let exceeds = rw c.top_level.ensures.value at c.in_err-lower_pages.ensures.walk in
    rw (failed.1, failed.2) (λ too_large.
    exceeds-lower (memory_of c.args.view.now) c.args.key.settings c.args.key.root c.new-space.result c.walk_slots.new.space
    c.new-space.ensures.regions c.new-space.ensures.uses c.new-space.ensures.leaves (exceeds too_large))

pub returns-in_err-upper_pages-clause-too_large : goal.returns-in_err-upper_pages-clause-too_large
returns-in_err-upper_pages-clause-too_large g c =
    let failed = err_from_is_err_and c.from_residual-in_err-upper_pages.result c.from_residual-in_err-upper_pages.ensures.1 in
    let lower = rw c.top_level.ensures.value at c.in_ok-lower_pages.ensures.walk in
    let exceeds = rw (c.upper_prefix.ensures.value, c.top_level.ensures.value) at c.in_err-upper_pages.ensures.walk in
    rw (failed.1, failed.2) (λ too_large.
    exceeds-upper (memory_of c.args.view.now) c.args.key.settings c.args.key.root c.new-space.result c.walk_slots.new.space
    c.new-space.ensures.regions c.new-space.ensures.uses c.new-space.ensures.leaves lower (exceeds too_large))
