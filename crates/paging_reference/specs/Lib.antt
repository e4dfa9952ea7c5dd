pub mod Extents
pub mod WalkedPages
pub mod PageTargets
pub mod ListedPages
pub mod TableLists
