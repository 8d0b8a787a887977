pub mod Parted
pub mod Written
pub mod Walking
pub mod Checked
