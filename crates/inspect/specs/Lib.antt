pub mod Form
pub mod Telling
pub mod Counting
pub mod Means
