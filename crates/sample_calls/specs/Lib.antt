pub mod Checking
pub mod Taking
