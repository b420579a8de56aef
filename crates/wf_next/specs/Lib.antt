pub mod Next
pub mod Determined
