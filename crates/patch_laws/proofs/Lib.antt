pub mod PatchRanges
pub mod SpaceUpdates
pub mod TouchedUses
