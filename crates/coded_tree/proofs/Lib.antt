pub mod ParityLaws
pub mod HashLaws
pub mod WriterLaws
pub mod BlockLaws
pub mod MarkLaws
