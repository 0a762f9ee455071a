pub mod ByteLaws
pub mod ChangeLaws
pub mod EventLaws
pub mod LiveLaws
pub mod MarkLaws
pub mod SystemLaws
