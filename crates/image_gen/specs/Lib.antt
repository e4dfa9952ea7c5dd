pub mod GeneratedTables
pub mod GeneratedCore
pub mod GeneratedLog
pub mod LineTexts
pub mod WorkedLogs
pub mod StatedCore
pub mod Accepted
