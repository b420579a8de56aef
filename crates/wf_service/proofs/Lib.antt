pub mod AddLemmas
pub mod QuietLemmas
pub mod FirstLemmas
pub mod GoingLemmas
pub mod BeginLemmas
