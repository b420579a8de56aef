pub mod Usages
pub mod Words
pub mod Parsed
