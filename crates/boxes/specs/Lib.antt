pub mod Rows
pub mod Boxes
pub mod Turns
pub mod Handling
pub mod Calls
pub mod Cases
pub mod Laws
pub mod Worked
