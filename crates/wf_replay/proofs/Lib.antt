pub mod AllowsLemmas
pub mod IllegalLemmas
