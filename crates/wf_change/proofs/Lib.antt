pub mod NotedLemmas
pub mod HeldLemmas
pub mod ChosenLemmas
