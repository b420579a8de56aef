pub mod NodeLemmas
pub mod TableLemmas
pub mod LeafLemmas
pub mod ReadLemmas
