pub mod HartLemmas
pub mod WordLemmas
pub mod AccessLemmas
pub mod WholeLemmas
pub mod ReservationLemmas
pub mod MappingLemmas
