pub mod WantLemmas
pub mod MovedLemmas
