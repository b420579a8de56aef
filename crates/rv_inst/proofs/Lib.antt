pub mod RowLemmas
pub mod RangeLemmas
pub mod FormatLemmas
pub mod SpellingLemmas
pub mod WidthLemmas
