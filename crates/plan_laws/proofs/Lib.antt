pub mod WrittenSlots
pub mod PlanPatches
pub mod OwnTables
pub mod WholePlans
pub mod WrittenEntries
