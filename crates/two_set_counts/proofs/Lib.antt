pub mod WordRows
pub mod RestLaws
pub mod JointLaws
pub mod ListLaws
