pub mod Rules
pub mod Stages
pub mod Checking
pub mod Laws
