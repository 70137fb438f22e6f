pub mod Tallies
pub mod Layers
pub mod Times
pub mod Right
