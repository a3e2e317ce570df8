pub mod FoldLaws
pub mod StepLaws
pub mod GoodLaws
pub mod FileLaws
pub mod CountLaws
pub mod HeldLaws
pub mod RoomLaws
pub mod Examples
