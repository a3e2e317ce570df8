pub mod LengthLaws
pub mod LineLaws
pub mod Examples
pub mod OkLaws
pub mod OffsetLaws
pub mod PieceLaws
pub mod TakeLaws
