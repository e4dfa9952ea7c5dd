pub mod HeldLaws
pub mod LastLaws
