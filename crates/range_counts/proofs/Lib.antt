pub mod RunLaws
pub mod CountLaws
