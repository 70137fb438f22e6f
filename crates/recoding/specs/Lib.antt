pub mod Look
pub mod Recoding
