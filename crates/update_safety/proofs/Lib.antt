pub mod ClearLaws
pub mod FetchLaws
pub mod HookedLaws
pub mod LiveLaws
pub mod SlotLaws
pub mod TakenLaws
pub mod ViewLaws
pub mod WindowLaws
