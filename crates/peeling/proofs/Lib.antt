pub mod OrderLaws
pub mod WalkLaws
pub mod SweepLaws
pub mod TurnLaws
pub mod PeelLaws
pub mod PrepareLaws
pub mod PickLaws
pub mod LoopLaws
