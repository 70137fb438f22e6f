pub mod AbsentLaws
pub mod CommittedLaws
pub mod TurnLaws
