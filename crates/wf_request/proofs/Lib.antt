pub mod ReachLemmas
pub mod UndoLemmas
pub mod WorkLemmas
pub mod ServedLemmas
