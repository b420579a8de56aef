pub mod Fetching
pub mod Sources
