pub mod FenceLaws
pub mod MetLaws
pub mod EmptyLaws
