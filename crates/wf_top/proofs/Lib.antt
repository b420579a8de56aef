pub mod LawLemmas
pub mod TopLemmas
pub mod ScriptLemmas
pub mod UnitLemmas
pub mod MakingLemmas
pub mod RunLemmas
