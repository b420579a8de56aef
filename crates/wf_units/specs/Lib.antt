pub mod Units
pub mod Ends
pub mod Calls
pub mod Requests
pub mod Instructions
pub mod Accessing
pub mod Agreeing
pub mod Whole
