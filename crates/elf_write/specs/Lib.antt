pub mod Layout
pub mod Modules
pub mod Names
pub mod Parts
pub mod Places
pub mod Records
pub mod Written
