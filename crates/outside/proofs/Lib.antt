pub mod Counts
pub mod MissingNames
pub mod PieceBytes
pub mod Prefixes
pub mod Writer
