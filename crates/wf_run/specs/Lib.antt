pub mod Stages
pub mod Answers
pub mod Following
pub mod Laws
