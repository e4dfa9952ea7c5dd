pub mod Facts
pub mod Findings
pub mod SlotEntries
pub mod SteadyTables
pub mod Tops
