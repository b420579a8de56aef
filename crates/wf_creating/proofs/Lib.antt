pub mod NumberLemmas
pub mod TextLemmas
pub mod TableLemmas
pub mod ParentLemmas
pub mod LaidLemmas
pub mod RefusalLemmas
pub mod RoomLemmas
pub mod SpliceLemmas
