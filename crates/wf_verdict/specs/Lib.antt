pub mod Requests
pub mod Verdict
pub mod Frames
pub mod Work
