pub mod WalkLaws
pub mod FillLaws
