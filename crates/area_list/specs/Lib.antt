pub mod ReachSets
pub mod Protections
pub mod KeptGrants
pub mod AreaLists
