pub mod StackLaws
pub mod ListLaws
pub mod TakenLaws
pub mod TurnLaws
pub mod PlacedLaws
pub mod RisingLaws
