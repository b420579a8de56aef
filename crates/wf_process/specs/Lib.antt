pub mod Harts
pub mod Bodies
pub mod Processes
pub mod Finding
pub mod Meeting
pub mod Writing
pub mod Reserving
