mod AnsweredPlaces
mod Members
mod HeldFields
mod HeldLists
mod HeldPlaces
mod HeldRegions
pub mod HeldSections
mod HeldViews
mod HeldWords
mod LinkedParts
mod PlacedChoice
mod PlacedFields
mod PlacedGoals
mod ReadObjects
