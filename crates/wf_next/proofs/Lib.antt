pub mod QuietLemmas
pub mod ActLemmas
pub mod NextLemmas
pub mod DeterminedLemmas
