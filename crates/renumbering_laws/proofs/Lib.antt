pub mod PairLaws
pub mod ListedLaws
