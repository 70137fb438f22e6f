pub mod WayLaws
pub mod GivenLaws
pub mod HeadLaws
pub mod RuledLaws
