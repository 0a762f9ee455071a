mod AlikeLaws
pub mod FirstLaws
pub mod CodeLaws
pub mod HomeLaws
pub mod TriedLaws
pub mod OwnLaws
