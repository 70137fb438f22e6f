pub mod CheckingLaws
pub mod TakingLaws
