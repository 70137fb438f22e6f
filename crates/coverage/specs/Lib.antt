pub mod Counting
pub mod Coverage
