pub mod Orders
pub mod LastAreas
pub mod Granting
pub mod Keys
pub mod Listed
pub mod TwoRegions
pub mod ProtectionNumbers
pub mod PermittedTables
