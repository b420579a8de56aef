pub mod WordLemmas
pub mod KeptLemmas
pub mod LineLemmas
