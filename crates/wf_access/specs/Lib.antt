pub mod Stores
pub mod Reserved
pub mod Wholes
pub mod Laws
