pub mod BuiltLemmas
pub mod StageLemmas
pub mod FileLemmas
pub mod NeedLemmas
pub mod FollowLemmas
pub mod LawLemmas
