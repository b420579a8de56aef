pub mod Entries
pub mod Finals
pub mod Headers
pub mod Fields
pub mod Events
pub mod Journals
pub mod Laws
pub mod Lines
