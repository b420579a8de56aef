pub mod Bounds
pub mod Fields
pub mod Formulas
pub mod Relocations
