pub mod Making
pub mod QuietHistories
pub mod HeldLevels
pub mod Executing
pub mod UntouchedUses
pub mod Costs
pub mod WrittenSlots
pub mod MomentsByTime
