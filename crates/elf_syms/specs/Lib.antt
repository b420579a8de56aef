pub mod Among
pub mod Maps
pub mod Names
pub mod Telling
