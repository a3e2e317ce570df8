pub mod ManyLaws
pub mod BufferLaws
pub mod LowestLaws
pub mod FillLaws
pub mod CallLaws
pub mod LeftLaws
pub mod MixLaws
mod Examples
