pub mod Tables
pub mod Settled
pub mod Values
pub mod Index
pub mod Nodes
pub mod Parts
