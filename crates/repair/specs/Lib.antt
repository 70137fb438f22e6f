pub mod Buffers
pub mod Reports
