mod Steps
mod Faults
pub mod Back
