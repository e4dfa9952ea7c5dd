pub mod StandingFacts
pub mod Audits
