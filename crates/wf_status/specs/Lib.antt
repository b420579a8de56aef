pub mod StatusText
pub mod Rules
