pub mod Layout
pub mod FrameWords
pub mod Frames
pub mod Free
pub mod Faults
