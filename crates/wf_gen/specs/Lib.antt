pub mod Sources
pub mod Files
