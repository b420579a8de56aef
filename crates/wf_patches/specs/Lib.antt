pub mod Bases
pub mod Stages
pub mod Needed
