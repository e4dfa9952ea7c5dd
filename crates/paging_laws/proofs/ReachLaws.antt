-- When an aim is at the address itself.
use Rattle.std.proofs.Common.{ℕ, ◌≡◌, ◌&&◌, Bool, true, false, Option, Some, None, Ok, Err, refl, arith, sym}
use Rattle.std.specs.Prelude.{not, ◌==◌, if◌then◌else◌}
use Rattle.std.proofs.lemmas.Grind.{common_steps}
use Rattle.std.proofs.lemmas.Bool.Decides.{nat_tests}
use Rattle.paging_model.specs.LinearAddress.{is_canonical}
use Rattle.paging_model.specs.Pointers.{aim_at, address_of, aim_of, is_at, lass_refuses, mask_width, reaches}
use Rattle.paging_model.specs.Registers.{la57, lass}
use Rattle.paging_model.specs.declared.registers.Regs.{Regs}
use Rattle.paging_model.specs.declared.access.Access.{Access}
use Rattle.paging_model.specs.declared.access.AimRule.TheVariants.{NotCanonical, Lass}
use Rattle.paging_laws.specs.ReachedAddresses.{is_same}

at_itself : (canonical refused : Bool) (x : ℕ) → is_at (if not canonical then Err NotCanonical else (if refused then Err Lass else Ok x)) x ≡ ((canonical && x == x) && not refused)
at_itself true true x = grind (arith, common_steps, nat_tests)
at_itself true false x = grind (arith, common_steps, nat_tests)
at_itself false refused x = refl

elsewhere : (canonical refused : Bool) (y x : ℕ) → (y == x) ≡ false → is_at (if not canonical then Err NotCanonical else (if refused then Err Lass else Ok y)) x ≡ false
elsewhere true true y x e = refl
elsewhere true false y x e = e
elsewhere false refused y x e = refl

not_there : (canonical refused : Bool) → ((canonical && false) && not refused) ≡ false
not_there true refused = refl
not_there false refused = refl

at_found : (regs : Regs) (access : Access) (y x : ℕ) (same : Bool) → (y == x) ≡ same →
    is_at (aim_at regs access (Some y)) x
    ≡ ((is_canonical (la57 regs) x && y == x) && not (lass regs && lass_refuses regs access x))
at_found regs access y x true e =
    let it : y ≡ x = grind (arith, nat_tests) in
    rw it (at_itself (is_canonical (la57 regs) x) (lass regs && lass_refuses regs access x) x)
at_found regs access y x false e =
    rw (elsewhere (is_canonical (la57 regs) y) (lass regs && lass_refuses regs access y) y x e, e)
    (sym (not_there (is_canonical (la57 regs) x) (lass regs && lass_refuses regs access x)))

is_at-aim_at : (regs : Regs) (access : Access) (found : Option ℕ) (x : ℕ) →
    is_at (aim_at regs access found) x
    ≡ ((is_canonical (la57 regs) x && is_same found x) && not (lass regs && lass_refuses regs access x))
is_at-aim_at regs access (Some y) x = at_found regs access y x (y == x) refl
is_at-aim_at regs access None x =
    sym (not_there (is_canonical (la57 regs) x) (lass regs && lass_refuses regs access x))

-- an address is reached where it is canonical, masking leaves it as it is, and LASS doesn't keep its half
pub reaches_is : (regs : Regs) (address : ℕ) (access : Access) →
    reaches regs access address
    ≡ ((is_canonical (la57 regs) address && is_same (address_of (mask_width regs access address) address) address)
    && not (lass regs && lass_refuses regs access address))
unfolding aim_of
reaches_is regs address access =
    is_at-aim_at regs access (address_of (mask_width regs access address) address) address
