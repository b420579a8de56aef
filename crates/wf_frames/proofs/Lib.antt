pub mod PlaceLemmas
pub mod FindingLemmas
pub mod FrameLemmas
