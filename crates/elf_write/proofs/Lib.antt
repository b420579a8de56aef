mod LengthLemmas
pub mod OrderLemmas
mod PartLemmas
mod WrittenLemmas
