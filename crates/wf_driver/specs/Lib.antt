pub mod Stepping
pub mod Machines
pub mod Making
pub mod Keeping
pub mod Housing
