pub mod Holders
pub mod Bytes
pub mod Conditionals
pub mod Texts
pub mod Refusals
pub mod Dead
pub mod Starts
