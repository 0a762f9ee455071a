pub mod ListLaws
pub mod CountLaws
pub mod OverlapLaws
pub mod PaddingLaws
pub mod RoomLaws
pub mod RoomyLaws
pub mod SameRoom
pub mod ApartLaws
