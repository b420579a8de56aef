pub mod UnfitLemmas
pub mod PlacedLemmas
