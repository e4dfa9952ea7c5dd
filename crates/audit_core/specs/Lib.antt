pub mod ProcessorNumbers
pub mod HostLists
pub mod Remembering
pub mod Standing
pub mod Stepping
