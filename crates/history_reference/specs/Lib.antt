pub mod Moments
pub mod CacheEntries
pub mod HeldLists
pub mod GivenPages
