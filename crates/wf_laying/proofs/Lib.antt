pub mod LayLemmas
pub mod WordLemmas
pub mod EntryLemmas
