pub mod Fills
pub mod PastEntries
pub mod ValueSpans
