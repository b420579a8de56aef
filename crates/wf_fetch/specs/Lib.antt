pub mod Held
pub mod Loaded
pub mod Fetching
pub mod Reading
pub mod Stages
