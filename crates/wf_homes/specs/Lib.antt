pub mod Homes
pub mod Entries
pub mod Kept
pub mod Stands
pub mod Laws
