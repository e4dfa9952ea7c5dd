pub mod LeadLaws
pub mod MadeLaws
pub mod DescentLaws
pub mod FirstLaws
pub mod AlikeLaws
pub mod SteadyLaws
