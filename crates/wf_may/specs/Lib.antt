pub mod Wanted
pub mod Asking
pub mod Acting
