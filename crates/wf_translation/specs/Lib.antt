pub mod Translations
pub mod Readings
