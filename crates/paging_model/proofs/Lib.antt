pub mod WalkSteps
pub mod SetBits
pub mod Denials
pub mod SmallTables
pub mod SmallUses
pub mod SmallListings
pub mod SmallMemory
