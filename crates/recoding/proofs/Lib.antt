pub mod LookLaws
pub mod RecodingLaws
