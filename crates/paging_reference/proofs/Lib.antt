pub mod Numbers
pub mod ReadEntries
pub mod PageLists
pub mod Membership
pub mod ReachedTables
