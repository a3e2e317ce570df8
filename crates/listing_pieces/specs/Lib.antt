pub mod Pieces
pub mod Verdicts
