pub mod Demands
pub mod Loaded
pub mod Placing
pub mod Rules
pub mod Segments
