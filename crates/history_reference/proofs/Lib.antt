pub mod ChangedRegisters
pub mod SameEntries
pub mod MadeLists
pub mod HeldSteps
pub mod Excesses
pub mod Usable
pub mod FirstFindings
