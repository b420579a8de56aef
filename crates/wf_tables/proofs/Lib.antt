pub mod IndexLemmas
pub mod NodeLemmas
pub mod RenewalLemmas
pub mod HousedLemmas
pub mod PartLemmas
