pub mod SymbolLaws
pub mod SamplerLaws
pub mod CheckLaws
