pub mod InHand
pub mod Refusing
