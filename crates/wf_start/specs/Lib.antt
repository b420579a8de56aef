pub mod Staying
pub mod Layout
pub mod Laying
pub mod Marking
pub mod Start
