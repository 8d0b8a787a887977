pub mod Marks
pub mod Ring
pub mod Steps
pub mod Written
pub mod Back
pub mod Front
pub mod Room
pub mod Shown
