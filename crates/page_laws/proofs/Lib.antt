pub mod PageCounts
pub mod Sums
pub mod SpaceCounts
pub mod Ranges
pub mod PatchRanges
pub mod MappedEntries
pub mod WrittenEntries
pub mod LeftCounts
