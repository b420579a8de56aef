pub mod Bytes
pub mod Laws
pub mod Shorts
pub mod Sizes
pub mod Words
