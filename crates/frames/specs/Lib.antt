pub mod Plans
pub mod Contents
pub mod Reading
pub mod Views
pub mod Rows
pub mod Laws
pub mod Examples
pub mod Ids
