pub mod LineLemmas
pub mod NumberLemmas
pub mod HexLemmas
pub mod WriteLemmas
