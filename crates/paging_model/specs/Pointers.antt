-- From a pointer to the linear address that is walked: masking, then canonicality, then the separation of the halves.
-- SDM 3A, "Linear-Address Masking" and "Linear-Address Space Separation".
use Rattle.std.specs.Prelude.{ℕ, ◌+◌, ◌-◌, ◌^◌, ◌&&◌, ◌||◌, ◌==◌, not, Bool, true, false, Option, Some, None, Result, Ok, Err, if◌then◌else◌}
use Rattle.paging_model.specs.AccessKinds.{is_user, is_implicit, is_fetch, is_data}
use Rattle.paging_model.specs.AccessRights.{smap_applies}
use Rattle.paging_model.specs.BitRanges.{bit, field, differs}
use Rattle.paging_model.specs.Registers.{la57, lass, lam_sup, lam_u57, lam_u48}
use Rattle.paging_model.specs.LinearAddress.{is_canonical}
use Rattle.paging_model.specs.declared.registers.Regs.{Regs}
use Rattle.paging_model.specs.declared.access.Access.{Access}
use Rattle.paging_model.specs.declared.access.AimRule.{AimRule}
use Rattle.paging_model.specs.declared.access.AimRule.TheVariants.{NotCanonical, Lass}

-- bit 63: the pointer names the upper half, which is the supervisor's
abbrev pub is_upper : ℕ → Bool
is_upper pointer = bit pointer 63

-- explicit data accesses are masked
abbrev pub is_masked : Access → Bool
is_masked access = is_data access && not (is_implicit access)

-- how many low bits of a pointer are its address, where it is masked: of user pointers 57 (LAM_U57) before 48
-- (LAM_U48), of supervisor pointers (LAM_SUP) 57 under 5-level paging and 48 under 4-level paging
abbrev pub mask_width : Regs → Access → ℕ → Option ℕ
mask_width regs access pointer =
    if not (is_masked access) then None else
    (if is_upper pointer
    then (if lam_sup regs then Some (if la57 regs then 57 else 48) else None)
    else (if lam_u57 regs then Some 57 else (if lam_u48 regs then Some 48 else None)))

-- the number, where the bit is 1
abbrev pub number_if : Bool → ℕ → ℕ
number_if true n = n
number_if false n = 0

-- bits 62:width are each replaced by the bit below them, and bit 63 stays
abbrev pub masked_pointer : ℕ → ℕ → ℕ
masked_pointer pointer width =
    field pointer (width - 1) 0 + number_if (bit pointer (width - 1)) (2 ^ 63 - 2 ^ width) + number_if (is_upper pointer) (2 ^ 63)

-- the address of a pointer under a width; none where bit 63 and the highest bit of the address differ
abbrev pub address_of : Option ℕ → ℕ → Option ℕ
address_of None pointer = Some pointer
address_of (Some width) pointer =
    if differs (is_upper pointer) (bit pointer (width - 1)) then None else Some (masked_pointer pointer width)

-- user accesses are kept from the upper half; of supervisor accesses, fetches are kept from the lower, and data accesses
-- where SMAP applies to them
abbrev pub lass_refuses : Regs → Access → ℕ → Bool
lass_refuses regs access address =
    if is_user access then is_upper address
    else not (is_upper address) && (is_fetch access || smap_applies regs access)

-- the address, where it is canonical and LASS keeps no access from it
abbrev pub aim_at : Regs → Access → Option ℕ → Result ℕ AimRule
aim_at regs access None = Err NotCanonical
aim_at regs access (Some address) =
    if not (is_canonical (la57 regs) address) then Err NotCanonical else
    (if lass regs && lass_refuses regs access address then Err Lass else Ok address)

-- the address that a pointer aims an access at, or the first rule that refuses it
unfoldable pub aim_of : Regs → Access → ℕ → Result ℕ AimRule
aim_of regs access pointer = aim_at regs access (address_of (mask_width regs access pointer) pointer)

-- whether an aim is at the address
abbrev pub is_at : Result ℕ AimRule → ℕ → Bool
is_at (Ok aimed) address = aimed == address
is_at (Err _) address = false

-- whether an access by the pointer that spells the address goes to that address
abbrev pub reaches : Regs → Access → ℕ → Bool
reaches regs access address = is_at (aim_of regs access address) address
