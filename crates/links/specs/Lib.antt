pub mod Mail
pub mod Rows
pub mod Calls
pub mod Laws
pub mod Bridges
