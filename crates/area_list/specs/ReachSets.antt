-- The accesses that reach an address, as a set.
-- SDM 3A, "Linear-Address Masking" and "Linear-Address Space Separation".
use Rattle.std.specs.Prelude.{◌≡◌, ℕ}
use Rattle.paging_model.specs.AccessSets.{has}
use Rattle.paging_model.specs.Pointers.{reaches}
use Rattle.paging_model.specs.declared.access.Access.{Access}
use Rattle.paging_model.specs.declared.registers.Regs.{Regs}

-- the set's members are the accesses that reach the address
abbrev pub IsReachOf : Regs → ℕ → ℕ → Type 0
IsReachOf regs address rights = (access : Access) → has rights access ≡ reaches regs access address
