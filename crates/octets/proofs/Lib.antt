pub mod Bytes
pub mod Bits
pub mod Choice
pub mod Stores
pub mod Writes
pub mod HexLaws
pub mod ListLaws
pub mod SameLaws
