pub mod Levels
pub mod Firsts
pub mod States
