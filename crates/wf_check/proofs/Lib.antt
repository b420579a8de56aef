pub mod LineLemmas
pub mod FirstLemmas
pub mod OneLemmas
pub mod StageLemmas
pub mod FewLemmas
pub mod FileLemmas
pub mod NeedLemmas
