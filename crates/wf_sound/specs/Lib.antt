pub mod Sound
pub mod Making
pub mod Laws
