pub mod Checking
pub mod Repairing
pub mod Sound
pub mod Ends
