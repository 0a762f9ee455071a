pub mod HookingLaws
pub mod RestoredLaws
pub mod RunLaws
pub mod RunsLaws
pub mod SavedLaws
pub mod ScratchLaws
