pub mod Joining
pub mod Indices
pub mod AddedRegions
pub mod Mapping
pub mod Seams
pub mod Copied
pub mod Replaced
