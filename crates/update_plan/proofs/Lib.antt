mod Answered
mod Choices
pub mod Fields
mod GuardLaws
pub mod InUse
pub mod InUseOlds
pub mod NewCodes
pub mod OneFunctions
pub mod OnePlan
mod Orders
mod Planned
mod Steps
pub mod SoundAddresses
pub mod SoundCode
pub mod SoundFences
pub mod SoundFields
pub mod SoundFile
pub mod SoundJumps
pub mod SoundLists
pub mod SoundOlds
pub mod SoundParts
pub mod SoundPieces
pub mod SoundPlan
pub mod SoundSteps
pub mod Targets
pub mod Versions
