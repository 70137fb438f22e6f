pub mod Kinds
pub mod SymbolHash
pub mod Ways
