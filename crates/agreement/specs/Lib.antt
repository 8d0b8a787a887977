pub mod Rows
pub mod Mail
pub mod Arrays
pub mod Runs
pub mod Worked
