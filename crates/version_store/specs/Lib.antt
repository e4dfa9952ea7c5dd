pub mod Changes
pub mod Groups
pub mod Records
pub mod Spanning
pub mod WrittenChanges
