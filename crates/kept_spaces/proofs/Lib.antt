mod KeyLists
pub mod Listed
mod Updates
