pub mod RowLemmas
pub mod LookLemmas
pub mod WalkLemmas
pub mod ExactLemmas
pub mod CommandLemmas
pub mod TextLemmas
