pub mod Places
pub mod Boxes
pub mod Lined
