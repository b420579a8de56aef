pub mod FrontLemmas
pub mod OrderLemmas
pub mod TextLemmas
pub mod MappedLemmas
pub mod ReachLemmas
pub mod NotingLemmas
pub mod RunLemmas
