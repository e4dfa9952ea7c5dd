-- What an event makes of the registers of a processor.
use Rattle.std.proofs.Common.{◌≡◌, ℕ, ◌&&◌, Bool, true, false, List, [], ◌∷◌, Some, refl, sym, ap, ◌∙◌, arith}
use Rattle.std.specs.Prelude.{◌==◌, ◌||◌, if◌then◌else◌}
use Rattle.std.proofs.lemmas.Bool.Decides.{nat_tests}
use Rattle.paging_model.specs.BitRanges.{differs}
use Rattle.paging_model.specs.Registers.{pge}
use Rattle.paging_model.specs.RegisterRules.{with_change}
use Rattle.paging_model.specs.declared.registers.Processor.{Processor}
use Rattle.paging_model.specs.declared.registers.RegChange.{RegChange}
use Rattle.paging_model.specs.declared.registers.RegChange.TheVariants.{Cr0, Cr3, Cr4, Efer, Ac, Pkru, Pkrs}
use Rattle.paging_model.specs.declared.registers.Regs.{Regs}
use Rattle.history_model.specs.History.{processors_after, regs_in, set_in}
use Rattle.history_model.specs.Invalidations.{change_empties, loses_all}
use Rattle.history_model.specs.declared.events.Event.{Event}
use Rattle.history_model.specs.declared.events.Event.TheVariants as event
use Rattle.history_laws.proofs.WalkLaws.{some-same}

set_in-regs : (cpu p : ℕ) (change : RegChange) (list : List Processor) (known : Regs) → regs_in list p ≡ Some known
    → regs_in (set_in cpu change list) p ≡ Some (if cpu == p then with_change change known else known)
set_in-regs cpu p change [] known is_known = absurd (cc)
set_in-regs cpu p change (one ∷ rest) known is_known =
    by_tests (one.number == cpu) (one.number == p) refl refl is_known (set_in-regs cpu p change rest known)
  where
    by_tests : (is_set is_p : Bool) → (one.number == cpu) ≡ is_set → (one.number == p) ≡ is_p → (if is_p then Some one.regs else regs_in rest p) ≡ Some known
        → (regs_in rest p ≡ Some known → regs_in (set_in cpu change rest) p ≡ Some (if cpu == p then with_change change known else known))
        → regs_in ((if is_set then (record one { regs = with_change change one.regs }) else one) ∷ set_in cpu change rest) p ≡ Some (if cpu == p then with_change change known else known)
    by_tests true true set here is later =
        let test : (cpu == p) ≡ true = grind (arith, nat_tests, set, here) in
        let same : one.regs ≡ known = some-same one.regs known is in
        rw (here, test) (ap (λ regs. Some (with_change change regs)) same)
    by_tests true false set here is later = rw here (later is)
    by_tests false true set here is later =
        let test : (cpu == p) ≡ false = grind (arith, nat_tests, set, here) in
        rw (here, test) is
    by_tests false false set here is later = rw here (later is)

not_differs : (a b more : Bool) → (differs a b || more) ≡ false → a ≡ b
not_differs true true more h = refl
not_differs true false more h = absurd (cc)
not_differs false true more h = absurd (cc)
not_differs false false more h = refl

pge-change : (change : RegChange) (known : Regs) → change_empties change known ≡ false → pge (with_change change known) ≡ pge known
pge-change (Cr0 value) known h = refl
pge-change (Cr3 value) known h = refl
pge-change (Cr4 value) known h = not_differs (pge (record known { cr4 = value })) (pge known) _ h
pge-change (Efer value) known h = refl
pge-change (Ac value) known h = refl
pge-change (Pkru value) known h = refl
pge-change (Pkrs value) known h = refl

same-pge : (known after : Regs) → Some known ≡ Some after → pge after ≡ pge known
same-pge known after h = ap pge (sym (some-same known after h))

-- PGE stays, unless the processor loses everything
pub pge-after : (happened : Event) (p : ℕ) (list : List Processor) (known after : Regs) → regs_in list p ≡ Some known
    → regs_in (processors_after happened list) p ≡ Some after → loses_all happened p known ≡ false → pge after ≡ pge known
pge-after (event.Machine m) p list known after is_known is_after kept = same-pge known after (sym is_known ∙ is_after)
pge-after (event.Cpu cpu given) p list known after is_known is_after kept = same-pge known after (sym is_known ∙ is_after)
pge-after (event.Write at bytes) p list known after is_known is_after kept = same-pge known after (sym is_known ∙ is_after)
pge-after (event.Set cpu change) p list known after is_known is_after kept =
    same-pge (if cpu == p then with_change change known else known) after (sym (set_in-regs cpu p change list known is_known) ∙ is_after) ∙ by_own (cpu == p) kept
  where
    by_own : (own : Bool) → (own && change_empties change known) ≡ false → pge (if own then with_change change known else known) ≡ pge known
    by_own true h = pge-change change known h
    by_own false h = refl
pge-after (event.Invlpg cpu address) p list known after is_known is_after kept = same-pge known after (sym is_known ∙ is_after)
pge-after (event.Invpcid cpu kind pcid address) p list known after is_known is_after kept = same-pge known after (sym is_known ∙ is_after)
pge-after (event.Ask cpu access pointer) p list known after is_known is_after kept = same-pge known after (sym is_known ∙ is_after)
pge-after (event.List cpu) p list known after is_known is_after kept = same-pge known after (sym is_known ∙ is_after)
pge-after (event.Point all) p list known after is_known is_after kept = same-pge known after (sym is_known ∙ is_after)
