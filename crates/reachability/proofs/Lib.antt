pub mod TellsLaws
pub mod WalkLaws
pub mod AlongLaws
