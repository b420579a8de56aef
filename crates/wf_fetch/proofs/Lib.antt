pub mod LoadedLemmas
pub mod StageLemmas
