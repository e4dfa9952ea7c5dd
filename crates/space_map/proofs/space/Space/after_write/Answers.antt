use Rattle.std.proofs.Common.{◌≡◌, ◌+◌, ◌-◌, ◌*◌, ◌≤◌, List, [], sym, subst, arith, length}
use Rattle.std.proofs.lemmas.Bool.Decides.{nat_tests}
use Rattle.kept_laws.specs.Patches.{ArePatches, entries_of, uses_in_patches}
use Rattle.kept_laws.specs.WrittenPlaces.{meets_slots}
use Rattle.kept_laws.specs.declared.patches.Patch.{Patch}
use Rattle.patch_laws.proofs.TouchedUses.{touched-are}
use Rattle.phys_view.specs.Seen.{memory_of}
use Rattle.plan_laws.proofs.OwnTables.{own-tables}
use Rattle.plan_laws.proofs.WholePlans.{planned-are}
use Rattle.plan_laws.proofs.WrittenEntries.{entries-are_written}
use Rattle.space_map.specs.PatchWalks.{AreOfOwnUses, index_tables}
use Rattle.space_map.proofs.LeftIndexes.{all-tables}
use Rattle.space_map.proofs.TrueAfter.{counted-still, regions-still, within-still, own-places, multiple-of_8, nothing-in}
use Rattle.space_map.proofs.space.Space.after_write.Goals as goal

pub update-requires-clause-was_true : goal.update-requires-clause-was_true
update-requires-clause-was_true g c = record {
  old = c.requires.was_true.old;
  written = (meets_slots c.args.plan.frame c.args.plan.first_slot c.args.plan.last_slot);
  is_true = c.requires.was_true.is_true;
  alike = c.requires.was_true.alike;
  are =
      subst (λ (it : List Patch). ArePatches c.requires.was_true.old (meets_slots c.args.plan.frame c.args.plan.first_slot c.args.plan.last_slot) c.args.self.now.key.settings c.args.self.now.key.root it) (sym c.deref.ensures.value)
      (planned-are c.requires.was_true.old c.args.self.now.key.settings c.args.self.now.key.root c.args.plan.patches.items c.args.plan.frame c.args.plan.first_slot c.args.plan.last_slot (index_tables c.args.self.now.index)
      c.args.plan.order c.args.plan.few c.args.plan.aligned c.args.self.now.aligned (all-tables c.requires.was_true.old c.args.self.now.key c.args.self.now.index c.requires.was_true.is_true.index) c.requires.planned);
  own =
      subst AreOfOwnUses (sym c.deref.ensures.value)
      (own-places c.args.plan.patches.items c.requires.planned.distinct
      (own-tables c.requires.was_true.old c.args.self.now.key.settings c.args.self.now.key.root c.args.plan.patches.items c.args.plan.frame c.args.plan.first_slot c.args.plan.last_slot (index_tables c.args.self.now.index) (all-tables c.requires.was_true.old c.args.self.now.key c.args.self.now.index c.requires.was_true.is_true.index) c.requires.planned));
}

pub returns-then-is_empty-clause-ok : goal.returns-then-is_empty-clause-ok
returns-then-is_empty-clause-ok g c =
    let none : length c.args.plan.patches.items ≡ 0 = grind (arith, nat_tests, c.if-is_empty.ensures, c.args.plan.patches.ok) in
    let are : ArePatches c.requires.was_true.old (meets_slots c.args.plan.frame c.args.plan.first_slot c.args.plan.last_slot) c.args.self.now.key.settings c.args.self.now.key.root [] =
    subst (λ (it : List Patch). ArePatches c.requires.was_true.old (meets_slots c.args.plan.frame c.args.plan.first_slot c.args.plan.last_slot) c.args.self.now.key.settings c.args.self.now.key.root it) (nothing-in c.args.plan.patches.items none)
    (planned-are c.requires.was_true.old c.args.self.now.key.settings c.args.self.now.key.root c.args.plan.patches.items c.args.plan.frame c.args.plan.first_slot c.args.plan.last_slot (index_tables c.args.self.now.index)
    c.args.plan.order c.args.plan.few c.args.plan.aligned c.args.self.now.aligned (all-tables c.requires.was_true.old c.args.self.now.key c.args.self.now.index c.requires.was_true.is_true.index) c.requires.planned) in
    record {
      index = counted-still (meets_slots c.args.plan.frame c.args.plan.first_slot c.args.plan.last_slot) c.requires.was_true.old (memory_of c.args.view.now) c.args.self.now.key c.requires.was_true.alike are c.args.self.now.index c.requires.was_true.is_true.index c.form.ensures.places;
      regions =
          regions-still (meets_slots c.args.plan.frame c.args.plan.first_slot c.args.plan.last_slot) c.requires.was_true.old (memory_of c.args.view.now) c.args.self.now.key c.requires.was_true.alike are c.args.self.now.index c.requires.was_true.is_true.index c.form.ensures.places
          c.args.self.now.regions c.requires.was_true.is_true.regions;
      within =
          within-still (meets_slots c.args.plan.frame c.args.plan.first_slot c.args.plan.last_slot) c.requires.was_true.old (memory_of c.args.view.now) c.args.self.now.key c.requires.was_true.alike are c.args.self.now.index c.requires.was_true.is_true.index c.form.ensures.places
          c.requires.was_true.is_true.within;
    }

pub returns-then-is_empty-clause-cost : goal.returns-then-is_empty-clause-cost
returns-then-is_empty-clause-cost g c = record {
  steps = 0;
  may = record {
    touched = 0;
    entries = 0;
    are_touched = record { things = []; some = record { have = λ thing is_in. absurd is_in; distinct = tt }; many = omega arith };
    are_entries = record { things = []; some = record { have = λ thing is_in. absurd is_in; distinct = tt }; many = omega arith };
    bound = omega arith;
  };
  bound = omega arith;
}

pub returns-clause-cost : goal.returns-clause-cost
returns-clause-cost g c =
    let patches : c.deref.result.now ≡ c.args.plan.patches.items = c.deref.ensures.value in
    let bound = subst (λ (it : List Patch). c.update.new.steps ≤ c.args.steps.now + entries_of it + 512 * length (uses_in_patches (memory_of c.args.view.now) c.args.self.now.key.settings it)) patches c.update.ensures.cost in
    let touched = touched-are (c.args.plan.frame + 8 * c.args.plan.first_slot) (8 * (c.args.plan.last_slot + 1 - c.args.plan.first_slot)) c.requires.was_true.old (memory_of c.args.view.now) c.args.self.now.key c.args.plan.patches.items
    c.requires.was_true.alike (planned-are c.requires.was_true.old c.args.self.now.key.settings c.args.self.now.key.root c.args.plan.patches.items c.args.plan.frame c.args.plan.first_slot c.args.plan.last_slot (index_tables c.args.self.now.index)
    c.args.plan.order c.args.plan.few c.args.plan.aligned c.args.self.now.aligned (all-tables c.requires.was_true.old c.args.self.now.key c.args.self.now.index c.requires.was_true.is_true.index) c.requires.planned) (multiple-of_8 c.args.self.now.key.root c.args.self.now.aligned) in
    record {
      steps = 512 * length (uses_in_patches (memory_of c.args.view.now) c.args.self.now.key.settings c.args.plan.patches.items) + entries_of c.args.plan.patches.items;
      may = record {
        touched = length (uses_in_patches (memory_of c.args.view.now) c.args.self.now.key.settings c.args.plan.patches.items);
        entries = entries_of c.args.plan.patches.items;
        are_touched = record { things = uses_in_patches (memory_of c.args.view.now) c.args.self.now.key.settings c.args.plan.patches.items; some = touched.some; many = omega arith };
        are_entries = entries-are_written c.requires.was_true.old (memory_of c.args.view.now) c.args.self.now.key c.args.plan.patches.items c.args.plan.frame c.args.plan.first_slot c.args.plan.last_slot (index_tables c.args.self.now.index)
            c.args.plan.order c.args.plan.few c.args.plan.aligned c.args.self.now.aligned c.requires.was_true.alike (all-tables c.requires.was_true.old c.args.self.now.key c.args.self.now.index c.requires.was_true.is_true.index) c.requires.planned;
        bound = omega arith;
      };
      bound = omega (arith, bound);
    }
