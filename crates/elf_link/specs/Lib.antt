pub mod Applied
pub mod Kept
pub mod Links
pub mod Results
pub mod Symbols
pub mod Values
