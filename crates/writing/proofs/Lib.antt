mod Pastes
mod Cuts
mod Steps
mod Lists
mod Fits
pub mod Endings
