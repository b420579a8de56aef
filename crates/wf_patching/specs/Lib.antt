pub mod Brought
pub mod Layout
pub mod Refusals
pub mod Laws
