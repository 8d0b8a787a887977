pub mod Orders
pub mod HeadOrders
pub mod HeadRules
pub mod Telling
pub mod HeadLaws
pub mod DomeRules
pub mod DomeLaws
