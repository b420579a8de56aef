pub mod MapLemmas
pub mod TellingLemmas
