pub mod Parents
pub mod Layout
pub mod Plans
pub mod Refusals
pub mod Room
pub mod Laws
pub mod Splices
