pub mod Sizes
pub mod Stores
pub mod Taking
pub mod Finding
pub mod Lawful
