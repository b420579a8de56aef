pub mod Lists
pub mod Views
pub mod Kept
pub mod Pages
pub mod Records
