pub mod MarkLaws
pub mod LengthLaws
pub mod TestLaws
pub mod AdmissionLaws
pub mod Taken
pub mod RecordLaws
