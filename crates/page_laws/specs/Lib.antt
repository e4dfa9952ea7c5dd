pub mod PatchEntries
