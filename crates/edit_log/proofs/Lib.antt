pub mod Options
pub mod Digits
pub mod Splitting
pub mod SpelledEvents
pub mod LastWords
pub mod HexPairs
pub mod Passing
pub mod Taking
