pub mod Tokens
pub mod Histories
pub mod Laws
pub mod Entries
pub mod Worked
pub mod Shortcuts
