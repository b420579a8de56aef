pub mod NumberLemmas
pub mod ReachLemmas
pub mod ShortLemmas
pub mod SizeLemmas
pub mod WordLemmas
