pub mod Drafts
pub mod Rules
