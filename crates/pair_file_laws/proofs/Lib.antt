pub mod ListLaws
pub mod SideLaws
pub mod KeepLaws
pub mod GoodLaws
pub mod RoomLaws
