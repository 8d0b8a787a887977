pub mod Received
pub mod Unpacking
