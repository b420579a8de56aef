pub mod LineLemmas
pub mod ReplaceLemmas
pub mod KeptLemmas
