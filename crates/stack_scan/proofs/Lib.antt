pub mod TargetLaws
pub mod WordLaws
pub mod LaneLaws
pub mod SlotLaws
pub mod StackLaws
pub mod CheckLaws
pub mod OrderLaws
