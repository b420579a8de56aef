pub mod Refusals
pub mod Plans
pub mod Carried
pub mod Laws
