pub mod JumpLemmas
