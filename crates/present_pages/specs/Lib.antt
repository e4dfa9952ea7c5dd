pub mod PresentRanges
pub mod StalePages
