-- What a page is mapped to, and which accesses it grants there.
-- SDM 3A, "Determination of Access Rights", "Protection Keys", "Linear-Address Masking" and "Linear-Address Space
-- Separation".
use Rattle.std.specs.Prelude.{ℕ, ◌&&◌, Bool, Option, Some, None}
use Rattle.paging_model.specs.Memory.{Memory}
use Rattle.paging_model.specs.Registers.{settings_of}
use Rattle.paging_model.specs.Walking.{walk}
use Rattle.paging_model.specs.AccessRights.{is_granted}
use Rattle.paging_model.specs.AccessSets.{set_number}
use Rattle.paging_model.specs.Pointers.{reaches}
use Rattle.paging_model.specs.declared.access.Access.{Access}
use Rattle.paging_model.specs.declared.entries.Bits.{Bits}
use Rattle.paging_model.specs.declared.registers.Machine.{Machine}
use Rattle.paging_model.specs.declared.registers.Regs.{Regs}
use Rattle.paging_model.specs.declared.registers.Settings.{Settings}
use Rattle.paging_model.specs.declared.walks.Walk.{Walk}
use Rattle.paging_model.specs.declared.walks.Walk.TheVariants.{Mapped}

-- the frame of a page, and what holds of accesses to it: the number of a set of accesses, or the page's protection
pub record Target (Kind : Type 0) : Type 0 where
  pub frame : ℕ
  pub kind : Kind

-- what a page's rights depend on besides the registers: the joined bits and the protection key
pub record Protection : Type 0 where
  pub bits : Bits
  pub key : ℕ

-- an access is permitted where its pointer may spell the address and no rule refuses it
abbrev pub is_permitted : Regs → Access → ℕ → Protection → Bool
is_permitted regs access x page = reaches regs access x && is_granted regs access page.bits page.key

-- the number of the set of accesses that a page permits at an address
abbrev pub rights_of : Regs → ℕ → Protection → ℕ
rights_of regs x page = set_number (λ access. is_permitted regs access x page)

-- what a walk maps a page to: none where it doesn't end at a page
abbrev pub raw_target_of : Walk → Option (Target Protection)
raw_target_of (Mapped page) = Some (record { frame = page.frame; kind = record { bits = page.bits; key = page.key } })
raw_target_of _ = None

-- what a page is mapped to, with the rights that the registers give in place of the protection
abbrev pub granted_target : Regs → ℕ → Option (Target Protection) → Option (Target ℕ)
granted_target regs x None = None
granted_target regs x (Some target) = Some (record { frame = target.frame; kind = rights_of regs x target.kind })

-- the frame and the protection that the present tables give a page
abbrev pub raw_target : Memory → Settings → ℕ → ℕ → Option (Target Protection)
raw_target memory settings root x = raw_target_of (walk memory settings root x)

-- the present translation of a page: the frame and the rights that the tables and the registers give it
abbrev pub present_target : Memory → Machine → Regs → ℕ → ℕ → Option (Target ℕ)
present_target memory machine regs root x = granted_target regs x (raw_target memory (settings_of regs machine) root x)
