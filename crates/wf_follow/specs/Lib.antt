pub mod Places
pub mod Units
pub mod Requests
pub mod Ticks
pub mod Follows
pub mod Unbuilt
pub mod Runs
pub mod Laws
