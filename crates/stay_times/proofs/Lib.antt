pub mod StayLaws
pub mod RootLaws
