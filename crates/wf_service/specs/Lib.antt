pub mod Resting
pub mod Adding
pub mod Calling
