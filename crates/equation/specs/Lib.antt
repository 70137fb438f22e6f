pub mod Rooms
pub mod States
pub mod Turns
