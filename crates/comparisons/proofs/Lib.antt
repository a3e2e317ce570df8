pub mod SearchLaws
pub mod RelationLaws
pub mod EqualLaws
pub mod OrderLaws
pub mod SliceLaws
mod Examples
