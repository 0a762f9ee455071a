pub mod CodeLaws
pub mod RowLaws
pub mod JumpLaws
pub mod DataLaws
pub mod ChangeLaws
pub mod KeepLaws
pub mod PhaseLaws
