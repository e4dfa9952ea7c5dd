pub mod IntervalLists
pub mod IntersectionSteps
pub mod UnionSteps
pub mod Searches
pub mod LastIntervals
pub mod PartSteps
