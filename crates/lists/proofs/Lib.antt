pub mod Fronts
pub mod Inserts
mod Stays
pub mod Flags
pub mod Holds
