pub mod Parted
pub mod Sound
mod Decisions
