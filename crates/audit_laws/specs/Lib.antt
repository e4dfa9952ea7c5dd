pub mod Leads
pub mod MadeAtTimes
pub mod SteadyTables
pub mod AlikePages
pub mod Firsts
