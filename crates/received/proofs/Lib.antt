mod Logging
pub mod Contents
