pub mod Built
pub mod Runs
