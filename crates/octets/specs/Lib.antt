pub mod BigEndian
pub mod ByteLists
pub mod Choice
pub mod Hex
