pub mod Elf
pub mod Fields
pub mod Names
pub mod Reading
pub mod Records
pub mod Relas
pub mod Rules
