pub mod Verdicts
pub mod Digits
pub mod LineStarts
