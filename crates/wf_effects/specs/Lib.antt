pub mod Texts
pub mod Generations
pub mod Ranges
pub mod Effects
