pub mod Verdicts
pub mod Lent
pub mod Ruled
