pub mod Lists
pub mod Pages
pub mod Images
pub mod Files
pub mod Puts
pub mod MemFiles
pub mod Refusals
pub mod Taking
