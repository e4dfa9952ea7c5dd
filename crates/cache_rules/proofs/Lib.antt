pub mod Orders
pub mod Nexts
pub mod Roots
pub mod KeptOrders
pub mod KeptLists
pub mod RegisterLaws
pub mod StandingLaws
pub mod StartLaws
