pub mod Lent
pub mod Absent
