pub mod SettledLemmas
pub mod SameLemmas
pub mod NextLemmas
pub mod RequestLemmas
pub mod RefusingLemmas
