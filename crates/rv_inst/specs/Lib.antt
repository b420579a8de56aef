pub mod Arch
pub mod Fields
pub mod Rows
pub mod Spelling
pub mod Decoding
pub mod Meanings
