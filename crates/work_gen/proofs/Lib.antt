pub mod AppendLaws
pub mod SectionLaws
pub mod SymbolLaws
