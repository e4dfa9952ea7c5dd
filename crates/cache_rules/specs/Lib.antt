pub mod Removals
pub mod Hosts
pub mod Standing
