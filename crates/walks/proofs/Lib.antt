pub mod WalkLaws
pub mod PairLaws
