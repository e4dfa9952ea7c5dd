pub mod WrittenPlaces
pub mod Patches
pub mod PageNumbers
