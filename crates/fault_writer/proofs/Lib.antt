pub mod Splices
pub mod WayLaws
pub mod ProofLaws
