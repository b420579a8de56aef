pub mod UnitLemmas
pub mod LoadLemmas
