pub mod Nodes
pub mod Layout
pub mod Blanks
pub mod Refusals
pub mod Plans
pub mod Room
pub mod Laws
