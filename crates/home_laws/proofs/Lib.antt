pub mod SettleLemmas
pub mod EventLemmas
pub mod StayLemmas
