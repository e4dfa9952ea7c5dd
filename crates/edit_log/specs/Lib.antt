pub mod Log
pub mod LogLine
pub mod Numbers
pub mod Words
pub mod Digits
pub mod Reading
pub mod Scanning
pub mod WorkedLines
