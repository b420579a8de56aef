pub mod Raising
pub mod Mapped
