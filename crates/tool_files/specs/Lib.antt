pub mod Loading
pub mod Pieces
pub mod Telling
