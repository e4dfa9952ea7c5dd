pub mod CountedUses
pub mod Records
pub mod FrameFlags
pub mod WholeRecords
