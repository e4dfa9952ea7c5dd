-- What is kept of the registers' grants for the pages of a zone.
use Rattle.std.specs.Prelude.{◌<◌, ◌^◌, IsTrue}
use Rattle.paging_model.specs.LinearAddress.{is_canonical}
use Rattle.paging_model.specs.Registers.{la57}
use Rattle.paging_model.specs.declared.registers.Regs.{Regs}
use Rattle.area_list.specs.Protections.{ArePermitted}
use Rattle.area_list.specs.ReachSets.{IsReachOf}
use Rattle.area_list.specs.declared.grants.Grants.{Grants}

-- the accesses that reach a canonical address, and those that each protection permits
pub record IsGrants (regs : Regs) (grants : Grants) : Type 0 where
  pub below : grants.address < 2 ^ 64
  pub canonical : IsTrue (is_canonical (la57 regs) grants.address)
  pub reached : IsReachOf regs grants.address grants.reached
  pub permitted : ArePermitted regs grants.permitted
