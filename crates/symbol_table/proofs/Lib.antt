pub mod BlockLaws
pub mod BodyLaws
pub mod EntryLaws
pub mod FunctionLaws
pub mod NameLaws
pub mod NextLaws
