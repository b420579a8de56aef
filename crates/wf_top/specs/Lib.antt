pub mod Making
pub mod Commands
pub mod Answers
pub mod Laws
