pub mod Words
pub mod Patches
pub mod Reading
