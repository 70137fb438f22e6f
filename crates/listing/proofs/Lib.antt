pub mod TextLaws
pub mod CodedLaws
