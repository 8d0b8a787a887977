pub mod Walk
pub mod Start
pub mod Heads
pub mod Whole
