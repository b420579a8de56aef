pub mod LineLemmas
pub mod JournalLemmas
pub mod FieldLemmas
pub mod EventLemmas
pub mod SoundLemmas
pub mod TextLemmas
