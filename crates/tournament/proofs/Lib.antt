pub mod RiseLaws
pub mod TreeLaws
