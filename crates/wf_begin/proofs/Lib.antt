pub mod NumberLemmas
pub mod RecordLemmas
pub mod StartLemmas
pub mod LaidLemmas
