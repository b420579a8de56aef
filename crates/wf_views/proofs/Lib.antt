pub mod KeyLemmas
pub mod KeptLemmas
pub mod ChangeLemmas
pub mod PageLemmas
pub mod RecordLemmas
