pub mod OutsideLemmas
pub mod PlaceLemmas
pub mod TextLemmas
pub mod MoveLemmas
