pub mod EntryLaws
pub mod SpanLaws
