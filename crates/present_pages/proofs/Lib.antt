pub mod Slots
pub mod Excesses
pub mod FirstStales
