pub mod FreshLemmas
pub mod SoundLemmas
