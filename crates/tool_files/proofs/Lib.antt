pub mod LoadLaws
pub mod PieceLaws
pub mod TellLaws
