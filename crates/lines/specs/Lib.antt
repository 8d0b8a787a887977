pub mod Digits
pub mod Rows
pub mod Reads
pub mod Calls
pub mod Tested
pub mod Laws
pub mod Examples
