pub mod At
pub mod Splits
