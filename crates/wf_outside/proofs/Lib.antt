pub mod RisingLemmas
pub mod ShelfLemmas
pub mod SinkLemmas
pub mod TakingLemmas
