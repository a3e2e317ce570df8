pub mod Stages
pub mod Pages
pub mod Fills
