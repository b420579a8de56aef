pub mod BaseLemmas
pub mod StageLemmas
pub mod ReachLemmas
pub mod ObjectLemmas
pub mod FetchLemmas
pub mod NeedLemmas
